-- A number of which no copy is under way is a wave at rest: its copies counted by who sent them, and by who holds them.
use Rattle.std.proofs.Common.{◌≡◌, ℕ, ◌-◌, ◌*◌, ◌≤◌, Bool, true, false, cond, ◌&&◌, leb, sym, ap, ◌∙◌, ⊎_elim, arith}
use lib.Count.{ones}
use Rattle.std.proofs.lemmas.Bool.{true≢false, and_parts, and_from, and_left, and_right, and_cases, or_left, or_right, cases_Bool, leb-true, leb-false, le-leb}
use Rattle.sets.proofs.Bounds.{sum_at_least, sum_by_two_tests, sum_by_three_tests, count_either}
use Rattle.sets.proofs.Counts.{count_mono}
use Rattle.sets.proofs.Sizes.{ones_count_within}
use Rattle.sets.proofs.Sums.{sum_swap, sum_const}
use Rattle.sets.specs.Counting.{sum, count}
use Rattle.quorum.specs.Waves.{Wave}
use Rattle.plain_session.specs.Protocol.{heard_count}
use Rattle.plain_session.specs.Rows.{heard_by, lost_from}
use Rattle.plain_session.specs.Sessions.{row_of}
use Rattle.plain_session.specs.declared.session_table.SessionTable.{SessionTable}
use Rattle.plain_tables.specs.declared.plan.Plan.{Plan}
use Rattle.plain_model.specs.Invariant.{GoodSession}
use Rattle.plain_model.specs.Plans.{SoundPlan, is_honest, honest_total}
use Rattle.plain_model.specs.Views.{endorsed, heard, pending, lost}
use Rattle.plain_model.proofs.HonestSet.{honest_below, honest_counted}

-- so many honest consoles have endorsed the number
abbrev pub endorsers : Plan → SessionTable → (number : ℕ) → ℕ
endorsers p t v = count p.floor.consoles (endorsed (row_of t v))

-- the console is honest and has heard it from at least q consoles
abbrev pub hears : Plan → SessionTable → (number q console : ℕ) → Bool
hears p t v q c = is_honest p c && leb q (heard_count t v c)

-- so many do
abbrev pub hearers : Plan → SessionTable → (number q : ℕ) → ℕ
hearers p t v q = count p.floor.consoles (hears p t v q)

-- No copy of the number is under way.
abbrev pub AtRest : SessionTable → (number : ℕ) → Type 0
AtRest t v = (f c : ℕ) → pending (row_of t v) f c ≡ false

-- the endorser's copy has reached the honest receiver
abbrev copy : Plan → SessionTable → (number sender receiver : ℕ) → Bool
copy p t v f c = endorsed (row_of t v) f && (is_honest p c && heard (row_of t v) f c)

-- how many copies have reached the receiver
abbrev held : Plan → SessionTable → (number receiver : ℕ) → ℕ
held p t v c = count p.floor.consoles (λ f. copy p t v f c)

-- ---- by senders

-- All copies of an endorser but the lost ones have arrived.
sent_copies :
    (p : Plan) (t : SessionTable) (v f : ℕ) → SoundPlan p → GoodSession p t → AtRest t v → endorsed (row_of t v) f ≡ true
    → honest_total p - p.floor.lost ≤ count p.floor.consoles (copy p t v f)
sent_copies p t v f sound good rest sent =
    let row = good.steady.table.rows v in
    let r = row_of t v in
    let missed : ones (lost_from r f).mask ≡ count p.floor.consoles (lost r f) =
    ones_count_within p.floor.consoles (lost_from r f).mask (λ c e. honest_below p c sound (row.lost_sent f c e).1) in
    let all = count_either p.floor.consoles (is_honest p) (copy p t v f) (lost r f)
    (λ c _ honest. ⊎_elim
    (λ gone. or_right (copy p t v f c) (lost r f c) gone)
    (λ kept. or_left (copy p t v f c) (lost r f c)
    (and_from _ _ sent (and_from _ _ honest (row.arrived f c sent honest (rest f c) kept))))
    (cases_Bool (lost r f c))) in
    omega (arith, honest_counted p sound, row.few_lost f)

-- The copies by senders and by receivers.
copies :
    (p : Plan) (t : SessionTable) (v : ℕ) → SoundPlan p → GoodSession p t → AtRest t v
    → endorsers p t v * (honest_total p - p.floor.lost) ≤ sum p.floor.consoles (held p t v)
unfolding count
copies p t v sound good rest =
    let n = p.floor.consoles in
    rw (sum_swap n n (λ c f. cond (copy p t v f c) 1 0))
    (sum_at_least n (honest_total p - p.floor.lost) (λ f. count n (copy p t v f)) (endorsed (row_of t v))
    (λ f _ sent. sent_copies p t v f sound good rest sent))

-- ---- by receivers

-- A receiver holds at most one copy of each endorser,
held_endorsed : (p : Plan) (t : SessionTable) (v c : ℕ) → held p t v c ≤ endorsers p t v
held_endorsed p t v c = count_mono p.floor.consoles (λ f. copy p t v f c) (endorsed (row_of t v)) (λ f _ e. (and_parts _ _ e).0)

-- has heard all that it holds,
held_heard : (p : Plan) (t : SessionTable) (v c : ℕ) → GoodSession p t → held p t v c ≤ heard_count t v c
held_heard p t v c good =
    let r = row_of t v in
    let all = ones_count_within p.floor.consoles (heard_by r c).mask (λ f e. (good.steady.table.rows v).heard_within f c e) in
    omega (
      arith,
      count_mono p.floor.consoles (λ f. copy p t v f c) (λ f. heard r f c)
          (λ f _ e. (and_parts (is_honest p c) _ (and_parts (endorsed r f) _ e).1).1),
    )

-- fewer than q if it is not one of the hearers,
held_few :
    (p : Plan) (t : SessionTable) (v q c : ℕ) → GoodSession p t → is_honest p c ≡ true
    → hears p t v q c ≡ false → held p t v c ≤ q - 1
held_few p t v q c good honest few =
    ⊎_elim
    (λ dishonest. absurd (true≢false (sym honest ∙ dishonest)))
    (λ rarely. omega (arith, leb-false q (heard_count t v c) rarely, held_heard p t v c good))
    (and_cases (is_honest p c) (leb q (heard_count t v c)) few)

-- and none if it is Byzantine.
held_none : (p : Plan) (t : SessionTable) (v c : ℕ) → is_honest p c ≡ false → held p t v c ≤ 0
unfolding count
held_none p t v c dishonest =
    let n = p.floor.consoles in
    let none : (f : ℕ) → copy p t v f c ≡ false = λ f. and_right _ _ (and_left _ _ dishonest) in
    omega (arith, count_mono n (λ f. copy p t v f c) (λ _. false) (λ f _ e. sym (none f) ∙ e), sum_const n 0)

-- ---- the wave

-- Who heard the number from more consoles heard it from fewer.
hears_less :
    (p : Plan) (t : SessionTable) (v c : ℕ) → SoundPlan p → hears p t v p.setting.thresholds.deliver c ≡ true
    → hears p t v p.setting.thresholds.forward c ≡ true
hears_less p t v c sound often =
    let heard_often = heard_count t v c in
    let parts = and_parts _ _ often in
    let enough : p.setting.thresholds.deliver ≤ heard_often = leb-true _ _ parts.1 in
    and_from _ _ parts.0 (le-leb p.setting.thresholds.forward heard_often (omega (arith, sound.rules.ordered)))

-- Where who heard the number often enough endorsed it, its copies are the wave's.
pub wave_at_rest :
    (p : Plan) (t : SessionTable) (v : ℕ) → SoundPlan p → GoodSession p t → AtRest t v
    → ((c : ℕ) → is_honest p c ≡ true → p.setting.thresholds.forward ≤ heard_count t v c → endorsed (row_of t v) c ≡ true)
    → Wave p.floor.lost p.setting.thresholds.deliver p.setting.thresholds.forward (honest_total p) (endorsers p t v)
    (hearers p t v p.setting.thresholds.forward) (hearers p t v p.setting.thresholds.deliver)
wave_at_rest p t v sound good rest forward =
    let n = p.floor.consoles in
    let x = endorsers p t v in
    let qf = p.setting.thresholds.forward in
    let qd = p.setting.thresholds.deliver in
    record {
      nested = count_mono n (hears p t v qd) (hears p t v qf) (λ c _. hears_less p t v c sound);
      forwarded =
          count_mono n (hears p t v qf) (endorsed (row_of t v))
          (λ c _ e. let parts = and_parts _ _ e in forward c parts.0 (leb-true _ _ parts.1));
      honest =
          omega (
            arith,
            honest_counted p sound,
            count_mono n (endorsed (row_of t v)) (is_honest p) (λ c _ e. ((good.steady.table.rows v).endorsers c e).0),
          );
      by_forwarders =
          omega (
            arith,
            copies p t v sound good rest,
            ap (λ (z : ℕ). (z - hearers p t v qf) * (qf - 1)) (honest_counted p sound),
            sum_by_two_tests n x (qf - 1) 0 (held p t v) (hears p t v qf) (is_honest p)
                (λ c _ e. (and_parts _ _ e).0)
                (λ c _ _. held_endorsed p t v c)
                (λ c _ honest few. held_few p t v qf c good honest few)
                (λ c _ dishonest. held_none p t v c dishonest),
          );
      by_deliverers =
          omega (
            arith,
            copies p t v sound good rest,
            ap (λ (z : ℕ). (z - hearers p t v qf) * (qf - 1)) (honest_counted p sound),
            sum_by_three_tests n x (qd - 1) (qf - 1) 0 (held p t v) (hears p t v qd) (hears p t v qf) (is_honest p)
                (λ c _. hears_less p t v c sound)
                (λ c _ e. (and_parts _ _ e).0)
                (λ c _ _. held_endorsed p t v c)
                (λ c _ some few. held_few p t v qd c good (and_parts _ _ some).0 few)
                (λ c _ honest few. held_few p t v qf c good honest few)
                (λ c _ dishonest. held_none p t v c dishonest),
          );
    }
