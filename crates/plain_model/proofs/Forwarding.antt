-- What is in order in a session stays so when the receiver of an endorsement tries to endorse the number itself.
use Rattle.std.proofs.Common.{◌≡◌, ℕ, ◌<◌, ◌≤◌, true, false, inl, inr, ⊎_elim, arith}
use Rattle.std.proofs.lemmas.Bool.{and_parts, cases_Bool, cond_both, leb-true, le-leb}
use Rattle.plain_session.specs.Protocol.{heard_count, may_endorse, forwarded}
use Rattle.plain_session.specs.Sessions.{row_of}
use Rattle.plain_session.specs.declared.session_table.SessionTable.{SessionTable}
use Rattle.plain_tables.specs.declared.plan.Plan.{Plan}
use Rattle.plain_model.specs.Invariant.{Votes, Steady, Forwards, Finishes}
use Rattle.plain_model.specs.Plans.{SoundPlan, is_honest}
use Rattle.plain_model.specs.Views.{endorsed, voted}
use Rattle.plain_model.proofs.Endorsing.{endorsing, endorsed_here, endorsing_table, endorsing_votes, endorsing_cast, endorsing_delivery}
use Rattle.plain_model.proofs.Endorsing.{endorsing_forwards, endorsing_finishes}
use Rattle.plain_model.proofs.HeardOrigin.{heard_origin}
use Rattle.plain_model.proofs.Hearing.{Elsewhere, by_pair}
use Rattle.plain_model.proofs.HonestSet.{honest_console}

-- A console that has endorsed nothing has not endorsed the number.
pub not_endorsed : (p : Plan) (t : SessionTable) (v c : ℕ) → Votes p t → voted t c ≡ false → endorsed (row_of t v) c ≡ false
not_endorsed p t v c votes none = let noted = votes.voters v c in grind arith

module _ (p : Plan) (t : SessionTable) (v c : ℕ) where
  -- Where it endorses, it heard the number often enough,
  heard_enough : may_endorse p.setting t v c ≡ true → p.setting.thresholds.forward ≤ heard_count t v c
  heard_enough tries = leb-true p.setting.thresholds.forward (heard_count t v c) (and_parts _ _ tries).0

  -- has not endorsed it,
  not_yet : may_endorse p.setting t v c ≡ true → Votes p t → endorsed (row_of t v) c ≡ false
  not_yet tries votes = let noted = votes.voters v c in grind arith

  -- and with single no other.
  first_if_single : may_endorse p.setting t v c ≡ true → p.setting.thresholds.single ≡ true → voted t c ≡ false
  first_if_single tries single = grind arith

  -- Where it does not, it heard too few, has endorsed the number, or with single another.
  unforwarded : may_endorse p.setting t v c ≡ false → Forwards p t v c
  unforwarded idle honest heard =
      let enough = le-leb p.setting.thresholds.forward (heard_count t v c) heard in
      ⊎_elim inl (λ none. inr (grind arith, grind arith)) (cases_Bool (endorsed (row_of t v) c))

  -- What is in order after each write is so after this one.
  pub forwarded_steady :
      SoundPlan p → Steady p t → v < p.floor.capacity → is_honest p c ≡ true → Steady p (forwarded p.setting t v c)
  forwarded_steady sound old known honest =
      cond_both (may_endorse p.setting t v c) (endorsing p t v c) t (Steady p)
      (λ tries. record {
        table = endorsing_table p t v c sound old.table known honest (not_yet tries old.votes);
        votes =
            endorsing_votes p t v c old.votes (omega (arith, old.table.row_places, sound.few_numbers))
            (honest_console p c sound honest) (first_if_single tries)
            (inr (heard_origin p t v c sound (old.table.rows v) old.votes (heard_enough tries)));
        cast_voted = λ k u e. endorsing_cast p t v c k u (old.cast_voted k u e);
        delivered_heard = λ k u e. endorsing_delivery p t v c k u (old.delivered_heard k u e);
      })
      (λ _. old)

  -- Who forwarded as it should elsewhere now does everywhere,
  pub forwarded_forwards :
      SoundPlan p → Steady p t → v < p.floor.capacity → is_honest p c ≡ true → ((u k : ℕ) → Elsewhere v c u k → Forwards p t u k)
      → (u k : ℕ) → Forwards p (forwarded p.setting t v c) u k
  forwarded_forwards sound old known honest forwards =
      cond_both (may_endorse p.setting t v c) (endorsing p t v c) t (λ x. (u k : ℕ) → Forwards p x u k)
      (λ _. by_pair v c (Forwards p (endorsing p t v c))
      (λ _ _. inl (endorsed_here p t v c (omega (arith, old.table.row_places, sound.few_numbers)) (honest_console p c sound honest)))
      (λ u k apart. endorsing_forwards p t v c u k (forwards u k apart)))
      (λ idle. by_pair v c (Forwards p t) (unforwarded idle) forwards)

  -- and who delivered as it should still does.
  pub forwarded_finishes :
      (u k : ℕ) → Finishes p t u k → Finishes p (forwarded p.setting t v c) u k
  forwarded_finishes u k old =
      cond_both (may_endorse p.setting t v c) (endorsing p t v c) t (λ x. Finishes p x u k)
      (λ _. endorsing_finishes p t v c u k old) (λ _. old)
