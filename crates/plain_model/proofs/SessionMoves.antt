-- What happens in a session changes its casts and deliveries only as it says.
use Rattle.std.proofs.Common.{◌≡◌, ℕ, true, cond, get_or, set, Some, None, sym, refl, ap, ◌∙◌}
use Rattle.std.proofs.lemmas.Bool.{cond_both, and_parts, not-true}
use Rattle.sets.specs.Members.{has}
use Rattle.plain_session.specs.Protocol.{may_endorse, may_deliver, forwarded, finished, heard_and_forwarded, received, delivers, casting}
use Rattle.plain_session.specs.Sessions.{delivered_by, hear_table, endorse_table, deliver_table, record_table}
use Rattle.plain_session.specs.declared.session_table.SessionTable.{SessionTable}
use Rattle.plain_session.specs.declared.setting.Setting.{Setting}
use Rattle.plain_model.proofs.AfterWrites.{of_cond}
use Rattle.plain_model.proofs.Entries.{no_entry}

module _ (setting : Setting) (t : SessionTable) (v c : ℕ) where
  -- What an endorsement does not change, forwarding does not.
  pub forwarding_keeps :
      {A : Type 0} (F : SessionTable → A) → F (endorse_table t v c setting.honest) ≡ F t → F (forwarded setting t v c) ≡ F t
  forwarding_keeps F same =
      cond_both (may_endorse setting t v c) (endorse_table t v c setting.honest) t (λ x. F x ≡ F t) (λ _. same) (λ _. refl)

  -- What a delivery does not change, trying to deliver does not.
  pub finishing_keeps : {A : Type 0} (F : SessionTable → A) → F (deliver_table t v c) ≡ F t → F (finished setting t v c) ≡ F t
  finishing_keeps F same = cond_both (may_deliver setting t v c) (deliver_table t v c) t (λ x. F x ≡ F t) (λ _. same) (λ _. refl)

  -- A cast shows what it does with an endorsement and without.
  pub casting_shows :
      {A : Type 0} (F : SessionTable → A) (a : A) → F (record_table t v c) ≡ a
      → F (record_table (endorse_table t v c setting.honest) v c) ≡ a → F (casting setting t v c) ≡ a
  casting_shows F a without with_one =
      cond_both (has t.voters.mask c) t (endorse_table t v c setting.honest) (λ x. F (record_table x v c) ≡ a)
      (λ _. without) (λ _. with_one)

  -- A cast records its number, and delivers nothing.
  pub casting_casts : (casting setting t v c).casts ≡ set t.casts c (Some v)
  casting_casts = casting_shows (λ x. x.casts) (set t.casts c (Some v)) refl refl

  pub casting_deliveries : (casting setting t v c).deliveries ≡ t.deliveries
  casting_deliveries = casting_shows (λ x. x.deliveries) t.deliveries refl refl

module _ (setting : Setting) (t : SessionTable) (v f c : ℕ) where
  -- An endorsement that arrives changes no cast.
  pub received_casts : (received setting t v f c).casts ≡ t.casts
  received_casts =
      finishing_keeps setting (heard_and_forwarded setting t v f c) v c (λ x. x.casts) refl
      ∙ forwarding_keeps setting (hear_table t v f c) v c (λ x. x.casts) refl

  forwarded_deliveries : (heard_and_forwarded setting t v f c).deliveries ≡ t.deliveries
  forwarded_deliveries = forwarding_keeps setting (hear_table t v f c) v c (λ x. x.deliveries) refl

  -- It adds the delivery, if any.
  pub received_deliveries :
      (received setting t v f c).deliveries ≡ cond (delivers setting t v f c) (set t.deliveries c (Some v)) t.deliveries
  received_deliveries =
      of_cond (λ (x : SessionTable). x.deliveries) (delivers setting t v f c) (deliver_table (heard_and_forwarded setting t v f c) v c)
      (heard_and_forwarded setting t v f c)
      ∙ ap (λ l. cond (delivers setting t v f c) (set l c (Some v)) l) forwarded_deliveries

  -- Only a console that has delivered nothing delivers.
  pub delivers_first : delivers setting t v f c ≡ true → delivered_by t c ≡ None
  delivers_first does =
      ap (λ l. get_or l c None) (sym forwarded_deliveries)
      ∙ no_entry _ (not-true _ (and_parts _ _ does).1)
