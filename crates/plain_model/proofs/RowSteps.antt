-- A copy that is handed over or lost is one of the steps that a number has left.
use Rattle.std.proofs.Common.{◌≡◌, ℕ, ◌+◌, ◌<◌, ◌≤◌, Bool, true, false, cond, ◌&&◌, ◌||◌, eqb, refl, ap, ◌∙◌, arith}
use Rattle.std.proofs.lemmas.Bool.{eqb-true, ne_eqb}
use Rattle.std.proofs.lemmas.Bool.Decides.{nat_tests}
use Rattle.sets.proofs.Counts.{count_cong}
use Rattle.sets.proofs.Sums.{sum_but_one, sum_cong}
use Rattle.sets.specs.Counting.{count}
use Rattle.plain_session.specs.Rows.{hear_row, settle_row, lose_row}
use Rattle.plain_session.specs.declared.row.Row.{Row}
use Rattle.plain_tables.specs.declared.plan.Plan.{Plan}
use Rattle.plain_model.specs.Invariant.{RowSized, GoodRow}
use Rattle.plain_model.specs.Plans.{is_honest}
use Rattle.plain_model.specs.Steps.{still_open, row_steps}
use Rattle.plain_model.specs.Views.{heard, pending, lost}
use Rattle.plain_model.proofs.RowViews.{heard_hear, lost_lose}

-- A test that fails at one place more holds at one fewer.
count_but_one :
    (n i : ℕ) (p q : ℕ → Bool) → i < n → ((k : ℕ) → (k ≡ i → ⊥) → p k ≡ q k) → p i ≡ true → q i ≡ false
    → count n p ≡ count n q + 1
unfolding count
count_but_one n i p q below same was is_not =
    sum_but_one n i 1 (λ k. cond (p k) 1 0) (λ k. cond (q k) 1 0) below (λ k other. ap (λ (b : Bool). cond {A = ℕ} b 1 0) (same k other))
    (omega (arith, ap (λ (b : Bool). cond {A = ℕ} b 1 0) was, ap (λ (b : Bool). cond {A = ℕ} b 1 0) is_not))

-- A copy that is marked as heard or lost is no longer open, and the others stay as they are.
marked_steps :
    (p : Plan) (a b : Row) (f c : ℕ) → f < p.floor.consoles → c < p.floor.consoles
    → ((g k : ℕ) → (heard b g k || lost b g k) ≡ ((heard a g k || lost a g k) || (eqb g f && eqb k c)))
    → still_open p a f c ≡ true → row_steps p a ≡ row_steps p b + 1
marked_steps p a b f c from to marks was =
    let n = p.floor.consoles in
    sum_but_one n f 1 (λ g. count n (still_open p a g)) (λ g. count n (still_open p b g)) from
    (λ g other. count_cong n _ _ (λ k _. let now = marks g k in let apart = ne_eqb g f other in grind (arith, nat_tests)))
    (count_but_one n c (still_open p a f) (still_open p b f) to
    (λ k other. let now = marks f k in let apart = ne_eqb k c other in grind (arith, nat_tests)) was
    (let now = marks f c in grind (arith, nat_tests)))

-- A copy under way is open.
pending_open :
    (p : Plan) (v : ℕ) (r : Row) (f c : ℕ) → GoodRow p v r → is_honest p f ≡ true → is_honest p c ≡ true → pending r f c ≡ true
    → still_open p r f c ≡ true
pending_open p v r f c good from to way =
    let only = good.pending_only f c way in
    rw (from, to, only.0, only.1) refl

module _ (p : Plan) (r : Row) (f c : ℕ) (sized : RowSized r) (few : p.floor.consoles ≤ 32) (from : f < p.floor.consoles)
    (to : c < p.floor.consoles) where
  -- A copy that is handed over is one step.
  pub hand_row_steps :
      (v : ℕ) → GoodRow p v r → is_honest p f ≡ true → is_honest p c ≡ true → pending r f c ≡ true
      → row_steps p r ≡ row_steps p (hear_row (settle_row r f c) f c) + 1
  hand_row_steps v good sender receiver way =
      marked_steps p r (hear_row (settle_row r f c) f c) f c from to
      (λ g k. let now = heard_hear r sized f c (omega arith) (omega arith) g k in grind (arith, nat_tests))
      (pending_open p v r f c good sender receiver way)

  -- So is one that is lost.
  pub lose_row_steps :
      (v : ℕ) → GoodRow p v r → is_honest p f ≡ true → is_honest p c ≡ true → pending r f c ≡ true
      → row_steps p r ≡ row_steps p (settle_row (lose_row r f c) f c) + 1
  lose_row_steps v good sender receiver way =
      marked_steps p r (settle_row (lose_row r f c) f c) f c from to
      (λ g k. let now = lost_lose r sized f c (omega arith) (omega arith) g k in grind (arith, nat_tests))
      (pending_open p v r f c good sender receiver way)

  -- A Byzantine console's endorsement is none.
  pub inject_row_steps : is_honest p f ≡ false → row_steps p (hear_row r f c) ≡ row_steps p r
  inject_row_steps byzantine =
      let n = p.floor.consoles in sum_cong n _ _ (λ g _. count_cong n _ _ (λ k _. same g k))
    where
      same : (g k : ℕ) → still_open p (hear_row r f c) g k ≡ still_open p r g k
      same g k =
          let now = heard_hear r sized f c (omega arith) (omega arith) g k in
          let sender : eqb g f ≡ true → is_honest p g ≡ false = λ e. ap (is_honest p) (eqb-true g f e) ∙ byzantine in
          grind (arith, nat_tests)
