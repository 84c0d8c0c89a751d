-- What is in order in a session stays so when an honest console endorses a number.
use Rattle.std.proofs.Common.{◌≡◌, ℕ, ◌<◌, ◌≤◌, true, false, ◌⊎◌, length, Some, sym, refl, ap, ◌∙◌, subst, inl, inr, ⊎_elim, arith}
use Rattle.std.proofs.lemmas.Bool.{true≢false}
use Rattle.sets.specs.Members.{with_console}
use Rattle.plain_session.specs.Agendas.{noted}
use Rattle.plain_session.specs.Protocol.{heard_count}
use Rattle.plain_session.specs.Rows.{busy_row, endorse_row}
use Rattle.plain_session.specs.Sessions.{row_of, cast_by, endorse_table}
use Rattle.plain_session.specs.declared.agenda.Agenda.{Agenda}
use Rattle.plain_session.specs.declared.row.Row.{Row}
use Rattle.plain_session.specs.declared.session_table.SessionTable.{SessionTable}
use Rattle.plain_tables.specs.declared.plan.Plan.{Plan}
use Rattle.plain_model.specs.Invariant.{GoodTable, Votes, RightCast, RightDelivery, Forwards, Finishes}
use Rattle.plain_model.specs.Plans.{SoundPlan, is_honest, backing}
use Rattle.plain_model.specs.Views.{endorsed, voted, casters}
use Rattle.plain_model.proofs.PutRow.{counts_same, row_by_row, put_here, put_table, with_row_noted}
use Rattle.plain_model.proofs.RowViews.{endorse_sized}
use Rattle.plain_model.proofs.RowWrites.{endorse_row_good}
use Rattle.plain_model.proofs.SetFacts.{joined_here, joined_keeps, joined_new}

module _ (p : Plan) (t : SessionTable) (v c : ℕ) where
  abbrev row : Row
  row = endorse_row (row_of t v) c p.setting.honest

  abbrev agenda : Agenda
  agenda = noted t.numbers v (busy_row row)

  abbrev pub endorsing : SessionTable
  endorsing = endorse_table t v c p.setting.honest

  -- Who had endorsed a number has,
  grows : (u k : ℕ) → endorsed (row_of t u) k ≡ true → endorsed (row_of endorsing u) k ≡ true
  grows =
      row_by_row (λ u old new. (k : ℕ) → endorsed old k ≡ true → endorsed new k ≡ true) t v row (with_console t.voters c) agenda
      (joined_keeps (row_of t v).endorsed.mask c) (λ u k e. e)

  -- and who has, had before or is the console with its number.
  abbrev OldOrHere : (u k : ℕ) → Type 0
  OldOrHere u k = (endorsed (row_of t u) k ≡ true) ⊎ ((u ≡ v) × (k ≡ c))

  old_or_here : (u k : ℕ) → endorsed (row_of endorsing u) k ≡ true → OldOrHere u k
  old_or_here =
      row_by_row (λ u old new. (k : ℕ) → endorsed new k ≡ true → (endorsed old k ≡ true) ⊎ ((u ≡ v) × (k ≡ c))) t v row
      (with_console t.voters c) agenda
      (λ k e. ⊎_elim inl (λ same. inr (refl, same)) (joined_new (row_of t v).endorsed.mask c k e)) (λ u k e. inl e)

  pub endorsed_here : v < length t.rows → c < 32 → endorsed (row_of endorsing v) c ≡ true
  endorsed_here known console =
      subst (λ r. endorsed r c ≡ true) (sym (put_here t v row (with_console t.voters c) agenda known))
      (joined_here (row_of t v).endorsed.mask c console)

  endorsing_voted : (k : ℕ) → voted t k ≡ true → voted endorsing k ≡ true
  endorsing_voted = joined_keeps t.voters.mask c

  pub voted_here : c < 32 → voted endorsing c ≡ true
  voted_here = joined_here t.voters.mask c

  heard_same : (u k : ℕ) → heard_count endorsing u k ≡ heard_count t u k
  heard_same = counts_same t v row (with_console t.voters c) agenda refl

  -- Its copies to all honest consoles are under way now.
  pub endorsing_table :
      SoundPlan p → GoodTable p t → v < p.floor.capacity → is_honest p c ≡ true → endorsed (row_of t v) c ≡ false
      → GoodTable p endorsing
  endorsing_table sound old known honest new =
      let few : v < 8 = omega (arith, sound.few_numbers) in
      put_table p t v row (with_console t.voters c) agenda old
      (endorse_sized (row_of t v) (old.rows_sized v few) c p.setting.honest)
      (endorse_row_good p v (row_of t v) sound (old.rows_sized v few) (old.rows v) c honest known new)
      (with_row_noted p t v row (with_console t.voters c) old few)

  -- The console endorses for a reason, and with single it is its first endorsement.
  pub endorsing_votes :
      Votes p t → v < length t.rows → c < 32 → (p.setting.thresholds.single ≡ true → voted t c ≡ false)
      → (cast_by t c ≡ Some v) ⊎ (backing p ≤ casters p t v) → Votes p endorsing
  endorsing_votes old known console first reason =
      record {
        origin = λ u k e.
            ⊎_elim (old.origin u k)
            (λ here. subst (λ (x : ℕ). (cast_by t k ≡ Some x) ⊎ (backing p ≤ casters p t x)) (sym here.0)
            (subst (λ (x : ℕ). (cast_by t x ≡ Some v) ⊎ (backing p ≤ casters p t v)) (sym here.1) reason))
            (old_or_here u k e);
        once = λ single u w k d e. one single u w k (old_or_here u k d) (old_or_here w k e);
        voters = λ u k e.
            ⊎_elim (λ before. endorsing_voted k (old.voters u k before))
            (λ here. subst (λ (x : ℕ). voted endorsing x ≡ true) (sym here.1) (voted_here console)) (old_or_here u k e);
        voted_some = λ k e.
            ⊎_elim (λ before. let some = old.voted_some k before in (some.0, grows some.0 k some.1))
            (λ here. (v, subst (λ (x : ℕ). endorsed (row_of endorsing v) x ≡ true) (sym here) (endorsed_here known console)))
            (joined_new t.voters.mask c k e);
      }
    where
      not_before : p.setting.thresholds.single ≡ true → (u k : ℕ) → endorsed (row_of t u) k ≡ true → k ≡ c → ⊥
      not_before single u k before same =
          true≢false (sym (old.voters u k before) ∙ ap (voted t) same ∙ first single)

      one : p.setting.thresholds.single ≡ true → (u w k : ℕ) → OldOrHere u k → OldOrHere w k → u ≡ w
      one single u w k (inl d) (inl e) = old.once single u w k d e
      one single u w k (inl d) (inr e) = absurd (not_before single u k d e.1)
      one single u w k (inr d) (inl e) = absurd (not_before single w k e d.1)
      one single u w k (inr d) (inr e) = d.0 ∙ sym e.0

  -- Casts and deliveries stay in order, and who forwarded and delivered as it should still does.
  pub endorsing_cast : (k u : ℕ) → RightCast p t k u → RightCast p endorsing k u
  endorsing_cast k u old = (old.0, old.1, endorsing_voted k old.2)

  pub endorsing_delivery : (k u : ℕ) → RightDelivery p t k u → RightDelivery p endorsing k u
  endorsing_delivery k u old = (old.0, old.1, omega (arith, old.2, heard_same u k))

  pub endorsing_forwards : (u k : ℕ) → Forwards p t u k → Forwards p endorsing u k
  endorsing_forwards u k old honest enough =
      ⊎_elim (λ e. inl (grows u k e)) (λ other. inr (other.0, endorsing_voted k other.1))
      (old honest (omega (arith, heard_same u k)))

  pub endorsing_finishes : (u k : ℕ) → Finishes p t u k → Finishes p endorsing u k
  endorsing_finishes u k old honest enough = old honest (omega (arith, heard_same u k))
