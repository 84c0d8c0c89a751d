-- Laws of counting the numbers below a bound that satisfy a test.
use Rattle.std.proofs.Common.{◌≡◌, ℕ, zero, suc, ◌+◌, ◌<◌, ◌≤◌, Bool, true, false, cond, not, ◌&&◌, sym, refl, ap, ◌∙◌, arith}
use Rattle.std.proofs.lemmas.Bool.{false≢true}
use Rattle.sets.specs.Counting.{sum, count}
use Rattle.sets.proofs.Sums.{sum_cong, sum_mono, sum_add, sum_const}

-- ---- one place: it adds 1 to the count where the test holds, else 0

tick_mono : (a b : Bool) → (a ≡ true → b ≡ true) → cond a 1 0 ≤ cond b 1 0
tick_mono true true h = omega arith
tick_mono true false h = absurd (false≢true (h refl))
tick_mono false b h = omega arith

tick_le : (b : Bool) → cond b 1 0 ≤ 1
tick_le true = omega arith
tick_le false = omega arith

tick_not : (b : Bool) → cond b 1 0 + cond (not b) 1 0 ≡ 1
tick_not true = refl
tick_not false = refl

tick_beyond : (p q : Bool) → (p ≡ true → q ≡ true) → cond p 1 0 + cond (q && not p) 1 0 ≡ cond q 1 0
tick_beyond true true h = refl
tick_beyond true false h = absurd (false≢true (h refl))
tick_beyond false true h = refl
tick_beyond false false h = refl

-- ---- counts

-- A count depends only on the tests below its bound.
pub count_cong : (n : ℕ) (p q : ℕ → Bool) → ((k : ℕ) → k < n → p k ≡ q k) → count n p ≡ count n q
unfolding count
count_cong n p q h = sum_cong n _ _ (λ k l. ap (λ (b : Bool). cond b 1 0) (h k l))

-- A weaker test holds at no fewer places.
pub count_mono : (n : ℕ) (p q : ℕ → Bool) → ((k : ℕ) → k < n → p k ≡ true → q k ≡ true) → count n p ≤ count n q
unfolding count
count_mono n p q h = sum_mono n _ _ (λ k l. tick_mono (p k) (q k) (h k l))

pub count_le : (n : ℕ) (p : ℕ → Bool) → count n p ≤ n
unfolding count
count_le n p = omega (arith, sum_mono n (λ k. cond (p k) 1 0) (λ _. 1) (λ k _. tick_le (p k)), sum_const n 1)

-- The places where a test holds and those where it fails are all.
pub count_not : (n : ℕ) (p : ℕ → Bool) → count n p + count n (λ k. not (p k)) ≡ n
unfolding count
count_not n p =
    sym (sum_add n (λ k. cond (p k) 1 0) (λ k. cond (not (p k)) 1 0))
    ∙ sum_cong n _ (λ _. 1) (λ k _. tick_not (p k)) ∙ omega (arith, sum_const n 1)

-- Where q holds, p holds or only q does.
pub count_beyond : (n : ℕ) (p q : ℕ → Bool) → ((k : ℕ) → k < n → p k ≡ true → q k ≡ true)
    → count n p + count n (λ k. q k && not (p k)) ≡ count n q
unfolding count
count_beyond n p q h =
    sym (sum_add n (λ k. cond (p k) 1 0) (λ k. cond (q k && not (p k)) 1 0))
    ∙ sum_cong n _ _ (λ k l. tick_beyond (p k) (q k) (h k l))

-- One more place, where the test holds or fails.
pub count_yes : (n : ℕ) (p : ℕ → Bool) → p n ≡ true → count (suc n) p ≡ count n p + 1
unfolding count sum
count_yes n p e = ap (λ (b : Bool). sum n (λ k. cond (p k) 1 0) + cond b 1 0) e

pub count_no : (n : ℕ) (p : ℕ → Bool) → p n ≡ false → count (suc n) p ≡ count n p
unfolding count sum
count_no n p e = omega (arith, ap (λ (b : Bool). cond {A = ℕ} b 1 0) e)

pub count_longer : (n : ℕ) (p : ℕ → Bool) → count n p ≤ count (suc n) p
unfolding count sum
count_longer n p = omega arith

-- ---- places that a count promises

abbrev Beyond : ℕ → (ℕ → Bool) → (ℕ → Bool) → Type 0
Beyond n p q = (k : ℕ) × (k < n) × (q k ≡ true) × (p k ≡ false)

further : (n : ℕ) (p q : ℕ → Bool) → Beyond n p q → Beyond (suc n) p q
further n p q found = (found.0, omega arith, found.2, found.3)

at_last : (n : ℕ) (p q : ℕ → Bool) (a b : Bool) → p n ≡ a → q n ≡ b → (count n p < count n q → Beyond n p q)
    → count (suc n) p < count (suc n) q → Beyond (suc n) p q
at_last n p q false true e d earlier h = (n, omega arith, d, e)
at_last n p q true true e d earlier h = further n p q (earlier (omega (arith, count_yes n p e, count_yes n q d)))
at_last n p q a false e d earlier h = further n p q (earlier (omega (arith, count_longer n p, count_no n q d)))

-- Pigeonhole: where q holds at more places than p, it holds at one where p does not.
pub place_beyond : (n : ℕ) (p q : ℕ → Bool) → count n p < count n q → (k : ℕ) × (k < n) × (q k ≡ true) × (p k ≡ false)
unfolding count sum
place_beyond zero p q h = absurd (omega arith)
place_beyond (suc n) p q h = at_last n p q (p n) (q n) refl refl (place_beyond n p q) h

-- A count that is not 0 has a place.
pub place_of_count : (n : ℕ) (p : ℕ → Bool) → 1 ≤ count n p → (k : ℕ) × (k < n) × (p k ≡ true)
unfolding count
place_of_count n p h =
    let found = place_beyond n (λ _. false) p (omega (arith, sum_const n 0)) in (found.0, found.1, found.2)
