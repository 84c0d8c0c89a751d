-- Bounds of a sum by how many values are small or large, and bounds of counts by other counts.
use Rattle.std.proofs.Common.{◌≡◌, ℕ, ◌+◌, ◌-◌, ◌*◌, ◌<◌, ◌≤◌, Bool, true, false, cond, not, ◌&&◌, ◌||◌, refl, ap, zero-add, arith}
use native.Mathlib.Nat.{sub-zero}
use Rattle.std.proofs.lemmas.Bool.{false≢true}
use Rattle.sets.specs.Counting.{sum, count}
use Rattle.sets.proofs.Counts.{count_mono, count_beyond}
use Rattle.sets.proofs.Sums.{sum_mono, sum_add, sum_scale, sum_const}

-- ---- one value

beside : (p q : Bool) (x b : ℕ) → (p ≡ true → q ≡ true) → (q ≡ true → p ≡ false → x ≤ b)
    → cond q x 0 ≤ cond p x 0 + cond (q && not p) 1 0 * b
beside true true x b implied small = omega arith
beside true false x b implied small = absurd (false≢true (implied refl))
beside false true x b implied small = omega (arith, small refl refl)
beside false false x b implied small = omega arith

at_least : (p : Bool) (x a : ℕ) → (p ≡ true → a ≤ x) → cond p 1 0 * a ≤ x
at_least true x a h = omega (arith, h refl)
at_least false x a h = omega arith

tick_either : (p q r : Bool) → (p ≡ true → (q || r) ≡ true) → cond p 1 0 ≤ cond q 1 0 + cond r 1 0
tick_either false q r h = omega arith
tick_either true true r h = omega arith
tick_either true false true h = omega arith
tick_either true false false h = absurd (false≢true (h refl))

tick_both : (p q : Bool) → cond p 1 0 + cond q 1 0 ≤ 1 + cond (p && q) 1 0
tick_both true q = omega arith
tick_both false true = omega arith
tick_both false false = omega arith

-- ---- sums

-- the values where a test holds
abbrev on : (ℕ → ℕ) → (ℕ → Bool) → ℕ → ℕ
on f p k = cond (p k) (f k) 0

-- One step outwards, to a weaker test: the values where only that holds are at most b.
ring : (n b : ℕ) (f : ℕ → ℕ) (p q : ℕ → Bool) → ((k : ℕ) → k < n → p k ≡ true → q k ≡ true)
    → ((k : ℕ) → k < n → q k ≡ true → p k ≡ false → f k ≤ b)
    → sum n (on f q) ≤ sum n (on f p) + (count n q - count n p) * b
unfolding count
ring n b f p q implied small =
    let only = λ (k : ℕ). cond {A = ℕ} (q k && not (p k)) 1 0 in
    let rest : count n (λ k. q k && not (p k)) ≡ count n q - count n p = omega (arith, count_beyond n p q implied) in
    omega (
      arith,
      sum_mono n (on f q) (λ k. on f p k + only k * b) (λ k l. beside (p k) (q k) (f k) b (implied k l) (small k l)),
      sum_add n (on f p) (λ k. only k * b),
      sum_scale n b only,
      ap (λ (x : ℕ). x * b) rest,
    )

-- The first step, from nowhere, and the last one, to everywhere.
inmost : (n a : ℕ) (f : ℕ → ℕ) (p : ℕ → Bool) → ((k : ℕ) → k < n → p k ≡ true → f k ≤ a) → sum n (on f p) ≤ count n p * a
unfolding count
inmost n a f p small =
    let none : sum n (λ _. 0) ≡ 0 = omega (arith, sum_const n 0) in
    simp (zero-add, sub-zero) at (rw none at (ring n a f (λ _. false) p (λ k l e. absurd (false≢true e)) (λ k l e _. small k l e)))

outmost : (n c : ℕ) (f : ℕ → ℕ) (p : ℕ → Bool) → ((k : ℕ) → k < n → p k ≡ false → f k ≤ c)
    → sum n f ≤ sum n (on f p) + (n - count n p) * c
unfolding count
outmost n c f p small =
    let all : sum n (λ _. 1) ≡ n = omega (arith, sum_const n 1) in
    rw all at (ring n c f p (λ _. true) (λ k l e. refl) (λ k l _. small k l))

-- A function that is at most a where p holds and at most b elsewhere.
pub sum_by_test : (n a b : ℕ) (f : ℕ → ℕ) (p : ℕ → Bool) → ((k : ℕ) → k < n → p k ≡ true → f k ≤ a)
    → ((k : ℕ) → k < n → p k ≡ false → f k ≤ b)
    → sum n f ≤ count n p * a + (n - count n p) * b
sum_by_test n a b f p h l = omega (arith, inmost n a f p h, outmost n b f p l)

-- A function that is at most a where p holds, at most b where only the weaker q does, and at most c elsewhere.
pub sum_by_two_tests : (n a b c : ℕ) (f : ℕ → ℕ) (p q : ℕ → Bool) → ((k : ℕ) → k < n → p k ≡ true → q k ≡ true)
    → ((k : ℕ) → k < n → p k ≡ true → f k ≤ a) → ((k : ℕ) → k < n → q k ≡ true → p k ≡ false → f k ≤ b)
    → ((k : ℕ) → k < n → q k ≡ false → f k ≤ c)
    → sum n f ≤ count n p * a + (count n q - count n p) * b + (n - count n q) * c
sum_by_two_tests n a b c f p q implied h l m =
    omega (arith, inmost n a f p h, ring n b f p q implied l, outmost n c f q m)

-- The same with one more test between.
pub sum_by_three_tests : (n a b c e : ℕ) (f : ℕ → ℕ) (p q r : ℕ → Bool) → ((k : ℕ) → k < n → p k ≡ true → q k ≡ true)
    → ((k : ℕ) → k < n → q k ≡ true → r k ≡ true)
    → ((k : ℕ) → k < n → p k ≡ true → f k ≤ a) → ((k : ℕ) → k < n → q k ≡ true → p k ≡ false → f k ≤ b)
    → ((k : ℕ) → k < n → r k ≡ true → q k ≡ false → f k ≤ c) → ((k : ℕ) → k < n → r k ≡ false → f k ≤ e)
    → sum n f ≤ count n p * a + (count n q - count n p) * b + (count n r - count n q) * c + (n - count n r) * e
sum_by_three_tests n a b c e f p q r inner outer h l m o =
    omega (arith, inmost n a f p h, ring n b f p q inner l, ring n c f q r outer m, outmost n e f r o)

-- A function that is at least a where p holds.
pub sum_at_least : (n a : ℕ) (f : ℕ → ℕ) (p : ℕ → Bool) → ((k : ℕ) → k < n → p k ≡ true → a ≤ f k) → count n p * a ≤ sum n f
unfolding count
sum_at_least n a f p h =
    let hit = λ (k : ℕ). cond {A = ℕ} (p k) 1 0 in
    omega (arith, sum_scale n a hit, sum_mono n (λ k. hit k * a) f (λ k i. at_least (p k) (f k) a (h k i)))

-- ---- counts

-- Where p holds, q or r does.
pub count_either : (n : ℕ) (p q r : ℕ → Bool) → ((k : ℕ) → k < n → p k ≡ true → (q k || r k) ≡ true)
    → count n p ≤ count n q + count n r
unfolding count
count_either n p q r covered =
    omega (
      arith,
      sum_mono n (λ k. cond (p k) 1 0) (λ k. cond (q k) 1 0 + cond (r k) 1 0) (λ k l. tick_either (p k) (q k) (r k) (covered k l)),
      sum_add n (λ k. cond (q k) 1 0) (λ k. cond (r k) 1 0),
    )

-- Two tests that hold at more than n places between them hold together at the rest.
pub count_both : (n : ℕ) (p q : ℕ → Bool) → count n p + count n q ≤ n + count n (λ k. p k && q k)
unfolding count
count_both n p q =
    omega (
      arith,
      sum_mono n (λ k. cond (p k) 1 0 + cond (q k) 1 0) (λ k. 1 + cond (p k && q k) 1 0) (λ k _. tick_both (p k) (q k)),
      sum_add n (λ k. cond (p k) 1 0) (λ k. cond (q k) 1 0),
      sum_add n (λ _. 1) (λ k. cond (p k && q k) 1 0),
      sum_const n 1,
    )

-- Two tests that never hold together, and only where r does.
pub count_apart : (n : ℕ) (p q r : ℕ → Bool) → ((k : ℕ) → k < n → p k ≡ true → r k ≡ true)
    → ((k : ℕ) → k < n → q k ≡ true → (r k && not (p k)) ≡ true)
    → count n p + count n q ≤ count n r
count_apart n p q r within apart =
    omega (arith, count_beyond n p r within, count_mono n q (λ k. r k && not (p k)) apart)
