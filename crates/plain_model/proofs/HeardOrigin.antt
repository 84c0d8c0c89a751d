-- A number that a console heard often enough to forward was cast by enough honest consoles.
use Rattle.std.proofs.Common.{◌≡◌, ℕ, ◌+◌, ◌<◌, ◌≤◌, Bool, true, false, ◌&&◌, sym, ◌∙◌, ⊎_elim, arith}
use Rattle.std.proofs.lemmas.Bool.{cases_lt, and_parts, and_from, false≢true}
use Rattle.sets.proofs.Counts.{place_beyond}
use Rattle.sets.specs.Counting.{count}
use Rattle.caster.specs.Meanings.{is}
use Rattle.plain_session.specs.Protocol.{heard_count}
use Rattle.plain_session.specs.Rows.{heard_by}
use Rattle.plain_session.specs.Sessions.{row_of, cast_by}
use Rattle.plain_session.specs.declared.session_table.SessionTable.{SessionTable}
use Rattle.plain_tables.specs.declared.plan.Plan.{Plan}
use Rattle.plain_model.specs.Invariant.{GoodRow, Votes}
use Rattle.plain_model.specs.Plans.{SoundPlan, is_honest, honest_total, among, backing}
use Rattle.plain_model.specs.Views.{heard, casters}
use Rattle.plain_model.proofs.Entries.{is_from}
use Rattle.plain_model.proofs.HonestSet.{honest_members}

-- All consoles that one heard a number from, but the Byzantine ones, are honest.
pub honest_heard :
    (p : Plan) (t : SessionTable) (v c : ℕ) → SoundPlan p → GoodRow p v (row_of t v)
    → heard_count t v c + honest_total p ≤ p.floor.consoles + among p (λ f. heard (row_of t v) f c)
honest_heard p t v c sound row = honest_members p (heard_by (row_of t v) c).mask sound (λ f. row.heard_within f c)

-- The honest ones it heard have endorsed the number. If they are more than those that cast it, one endorsed without casting,
-- and did so because enough had cast.
pub heard_origin :
    (p : Plan) (t : SessionTable) (v c : ℕ) → SoundPlan p → GoodRow p v (row_of t v) → Votes p t
    → p.setting.thresholds.forward ≤ heard_count t v c → backing p ≤ casters p t v
heard_origin p t v c sound row votes enough =
    ⊎_elim (λ fewer. beyond (place_beyond n cast heard_honest fewer)) (λ more. omega (arith, honest_heard p t v c sound row))
    (cases_lt (count n cast) (count n heard_honest))
  where
    n : ℕ
    n = p.floor.consoles

    cast : ℕ → Bool
    cast k = is_honest p k && is (cast_by t k) v

    heard_honest : ℕ → Bool
    heard_honest k = is_honest p k && heard (row_of t v) k c

    beyond : (k : ℕ) × (k < n) × (heard_honest k ≡ true) × (cast k ≡ false) → backing p ≤ casters p t v
    beyond found =
        let k = found.0 in
        let both = and_parts (is_honest p k) (heard (row_of t v) k c) found.2 in
        ⊎_elim
        (λ own. absurd (false≢true (sym found.3
        ∙ and_from (is_honest p k) (is (cast_by t k) v) both.0 (is_from (cast_by t k) v own))))
        (λ enough. enough)
        (votes.origin v k (row.heard_sent k c both.0 both.1))
