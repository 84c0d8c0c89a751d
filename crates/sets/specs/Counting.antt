-- Finite sums, and how many numbers below a bound satisfy a test.
use Rattle.std.specs.Prelude.{◌≡◌, ℕ, zero, suc, ◌+◌, ◌-◌, ◌*◌, ◌<◌, ◌≤◌, Bool, true, false, if◌then◌else◌}

-- f 0 + .. + f (n - 1)
unfoldable pub sum : ℕ → (ℕ → ℕ) → ℕ
sum zero f = 0
sum (suc n) f = sum n f + f n

-- how many k below n satisfy p
unfoldable pub count : ℕ → (ℕ → Bool) → ℕ
count n p = sum n (λ k. if p k then 1 else 0)

-- What quorum arguments rest on, for sums and counts of any length.
pub record CountingLaws : Type 0 where
  -- a table has the same total by rows and by columns
  pub double_counting : (n m : ℕ) (f : ℕ → ℕ → ℕ) → sum n (λ i. sum m (λ j. f i j)) ≡ sum m (λ j. sum n (λ i. f i j))
  pub monotone_sum : (n : ℕ) (f g : ℕ → ℕ) → ((k : ℕ) → k < n → f k ≤ g k) → sum n f ≤ sum n g
  pub monotone_count : (n : ℕ) (p q : ℕ → Bool) → ((k : ℕ) → k < n → p k ≡ true → q k ≡ true) → count n p ≤ count n q
  -- a sum of terms that are at most a where p holds, and at most b elsewhere
  pub by_test :
      (n a b : ℕ) (f : ℕ → ℕ) (p : ℕ → Bool) → ((k : ℕ) → k < n → p k ≡ true → f k ≤ a)
      → ((k : ℕ) → k < n → p k ≡ false → f k ≤ b) → sum n f ≤ count n p * a + (n - count n p) * b
  -- where q holds at more places than p, it holds at one where p does not
  pub pigeonhole : (n : ℕ) (p q : ℕ → Bool) → count n p < count n q → (k : ℕ) × (k < n) × (q k ≡ true) × (p k ≡ false)
