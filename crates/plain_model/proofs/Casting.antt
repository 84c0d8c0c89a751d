-- A cast keeps the invariant of the session.
use Rattle.std.proofs.Common.{◌≡◌, ℕ, ◌<◌, ◌≤◌, true, false, set, Some, None, ◌∙◌, inl, inr, ⊎_elim, arith}
use Rattle.std.proofs.lemmas.List.{get_or-set_same, length-set}
use Rattle.std.proofs.lemmas.Bool.{and_parts, and_from, cond_both}
use Rattle.sets.proofs.Counts.{count_mono}
use Rattle.caster.specs.Meanings.{is}
use Rattle.plain_session.specs.Protocol.{casting}
use Rattle.plain_session.specs.Sessions.{cast_by, record_table, endorse_table}
use Rattle.plain_session.specs.declared.session_table.SessionTable.{SessionTable}
use Rattle.plain_tables.specs.declared.plan.Plan.{Plan}
use Rattle.plain_model.specs.Invariant.{GoodTable, Votes, RightCast, Steady, GoodSession}
use Rattle.plain_model.specs.Plans.{SoundPlan, is_honest}
use Rattle.plain_model.specs.Views.{voted, casters}
use Rattle.plain_model.proofs.Endorsing.{endorsing, voted_here, endorsing_table, endorsing_votes, endorsing_cast, endorsing_delivery}
use Rattle.plain_model.proofs.Endorsing.{endorsing_forwards, endorsing_finishes}
use Rattle.plain_model.proofs.Entries.{is_from, from_is, put_all, put_keeps, entry_table}
use Rattle.plain_model.proofs.Forwarding.{not_endorsed}
use Rattle.plain_model.proofs.HonestSet.{honest_console}

module _ (p : Plan) (t : SessionTable) (v c : ℕ) where
  abbrev recorded : SessionTable
  recorded = record_table t v c

  -- The cast is recorded,
  recorded_table : GoodTable p t → GoodTable p recorded
  recorded_table old =
      entry_table p t (set t.casts c (Some v)) t.deliveries old (length-set t.casts c (Some v) ∙ old.cast_places)
      old.delivery_places

  module _ (free : cast_by t c ≡ None) where
    -- which takes no caster away,
    casters_grow : (u : ℕ) → casters p t u ≤ casters p recorded u
    casters_grow u =
        count_mono p.floor.consoles _ _
        (λ k _ e.
        let both = and_parts (is_honest p k) (is (cast_by t k) u) e in
        and_from (is_honest p k) (is (cast_by recorded k) u) both.0
        (is_from (cast_by recorded k) u (put_keeps t.casts c v free k u (from_is (cast_by t k) u both.1))))

    -- so endorsements keep their reasons.
    recorded_votes : Votes p t → Votes p recorded
    recorded_votes old =
        record {
          origin = λ u k e.
              ⊎_elim (λ own. inl (put_keeps t.casts c v free k u own)) (λ most. inr (omega (arith, most, casters_grow u)))
              (old.origin u k e);
          once = old.once;
          voters = old.voters;
          voted_some = old.voted_some;
        }

    module _ (sound : SoundPlan p) (good : GoodSession p t) (known : v < p.floor.capacity) (honest : is_honest p c ≡ true) where
      abbrev old : Steady p t
      old = good.steady

      -- A console that has endorsed some number only has its cast recorded.
      cast_only : voted t c ≡ true → GoodSession p recorded
      cast_only has_voted =
          record {
            steady = record {
              table = recorded_table old.table;
              votes = recorded_votes old.votes;
              cast_voted = put_all t.casts c v (RightCast p t) (honest, known, has_voted) old.cast_voted;
              delivered_heard = old.delivered_heard;
            };
            forwarding = good.forwarding;
            heard_delivered = good.heard_delivered;
          }

      -- Another endorses the number it casts. To record first and then to endorse gives the same session.
      cast_and_endorse : voted t c ≡ false → GoodSession p (record_table (endorse_table t v c p.setting.honest) v c)
      cast_and_endorse none =
          let after = endorsing p recorded v c in
          let console = honest_console p c sound honest in
          record {
            steady = record {
              table =
                  endorsing_table p recorded v c sound (recorded_table old.table) known honest (not_endorsed p t v c old.votes none);
              votes =
                  endorsing_votes p recorded v c (recorded_votes old.votes) (omega (arith, old.table.row_places, sound.few_numbers))
                  console (λ _. none) (inl (get_or-set_same t.casts c (Some v) None (omega (arith, old.table.cast_places))));
              cast_voted =
                  put_all t.casts c v (RightCast p after) (honest, known, voted_here p recorded v c console)
                  (λ k u e. endorsing_cast p recorded v c k u (old.cast_voted k u e));
              delivered_heard = λ k u e. endorsing_delivery p recorded v c k u (old.delivered_heard k u e);
            };
            forwarding = λ u k. endorsing_forwards p recorded v c u k (good.forwarding u k);
            heard_delivered = λ u k. endorsing_finishes p recorded v c u k (good.heard_delivered u k);
          }

-- A console that had cast nothing casts a number.
pub casting_good :
    (p : Plan) (t : SessionTable) (v c : ℕ) → SoundPlan p → GoodSession p t → v < p.floor.capacity → is_honest p c ≡ true
    → cast_by t c ≡ None → GoodSession p (casting p.setting t v c)
casting_good p t v c sound good known honest free =
    cond_both (voted t c) t (endorse_table t v c p.setting.honest) (λ (x : SessionTable). GoodSession p (record_table x v c))
    (cast_only p t v c free sound good known honest) (cast_and_endorse p t v c free sound good known honest)
