-- Laws of finite sums.
use Rattle.std.proofs.Common.{◌≡◌, ℕ, zero, suc, ◌+◌, ◌*◌, ◌<◌, ◌≤◌, sym, refl, ap, ◌∙◌, subst, inl, inr, arith}
use Rattle.std.proofs.lemmas.Bool.{cases_eq}
use Rattle.sets.specs.Counting.{sum}

-- A sum depends only on the values below its bound.
pub sum_cong : (n : ℕ) (f g : ℕ → ℕ) → ((k : ℕ) → k < n → f k ≡ g k) → sum n f ≡ sum n g
unfolding sum
sum_cong zero f g h = refl
sum_cong (suc n) f g h = omega (arith, sum_cong n f g (λ k l. h k (omega arith)), h n (omega arith))

-- A sum of larger values is larger.
pub sum_mono : (n : ℕ) (f g : ℕ → ℕ) → ((k : ℕ) → k < n → f k ≤ g k) → sum n f ≤ sum n g
unfolding sum
sum_mono zero f g h = omega arith
sum_mono (suc n) f g h = omega (arith, sum_mono n f g (λ k l. h k (omega arith)), h n (omega arith))

-- The sum of a sum of functions.
pub sum_add : (n : ℕ) (f g : ℕ → ℕ) → sum n (λ k. f k + g k) ≡ sum n f + sum n g
unfolding sum
sum_add zero f g = refl
sum_add (suc n) f g = omega (arith, sum_add n f g)

-- The sum of a multiple of a function.
pub sum_scale : (n a : ℕ) (f : ℕ → ℕ) → sum n (λ k. f k * a) ≡ sum n f * a
unfolding sum
sum_scale zero a f = omega arith
sum_scale (suc n) a f = omega (arith, sum_scale n a f)

-- The sum of a constant.
pub sum_const : (n a : ℕ) → sum n (λ _. a) ≡ n * a
unfolding sum
sum_const zero a = omega arith
sum_const (suc n) a = omega (arith, sum_const n a)

-- The first value, and the others.
pub sum_front : (n : ℕ) (f : ℕ → ℕ) → sum (suc n) f ≡ f 0 + sum n (λ k. f (suc k))
unfolding sum
sum_front zero f = omega arith
sum_front (suc n) f = omega (arith, sum_front n f)

-- Double counting: a table summed by rows and by columns.
pub sum_swap : (n m : ℕ) (f : ℕ → ℕ → ℕ) → sum n (λ i. sum m (λ j. f i j)) ≡ sum m (λ j. sum n (λ i. f i j))
unfolding sum
sum_swap zero m f = sym (omega (arith, sum_const m 0))
sum_swap (suc n) m f =
    ap (λ (x : ℕ). x + sum m (f n)) (sum_swap n m f) ∙ sym (sum_add m (λ j. sum n (λ i. f i j)) (f n))

-- Two functions that differ at one place only, by a there, have sums that differ by a.
pub sum_but_one :
    (n i a : ℕ) (f g : ℕ → ℕ) → i < n → ((k : ℕ) → (k ≡ i → ⊥) → f k ≡ g k) → f i ≡ g i + a → sum n f ≡ sum n g + a
unfolding sum
sum_but_one zero i a f g below same here = absurd (omega arith)
sum_but_one (suc n) i a f g below same here =
    elim (cases_eq i n) [
      | inl last ↦
          let rest : sum n f ≡ sum n g = sum_cong n f g (λ k l. same k (λ e. omega arith)) in
          let at_n : f n ≡ g n + a = subst (λ (j : ℕ). f j ≡ g j + a) last here in omega arith
      | inr other ↦
          let at_n : f n ≡ g n = same n (λ e. other (sym e)) in
          omega (arith, sum_but_one n i a f g (omega arith) same here)
    ]
