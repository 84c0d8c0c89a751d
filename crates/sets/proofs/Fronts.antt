-- The numbers below a bound as a mask, and the lowest member of a mask.
use Rattle.std.proofs.Common.{◌≡◌, ℕ, zero, suc, ◌-◌, ◌/◌, ◌%◌, ◌^◌, ◌<◌, false, eqb, ltb, Some, None, sym, refl, ap, ◌∙◌, arith, pow_pos, MatchOption}
use native.Mathlib.Nat.{two-pow-succ}
use lib.Count.{count_trailing_zeros, under}
use lib.Dec.{leb-suc-zero, leb-suc-suc}
use Rattle.std.proofs.lemmas.Bool.{lt-ltb, cond_both, eqb-true, eqb-false}
use Rattle.sets.specs.Members.{has, Lowest, first_member}
use Rattle.sets.proofs.Bits.{has_half, has_odd, has_even, has_zero}

-- The mask of the numbers below w.
pub has_ones : (w j : ℕ) → has (2 ^ w - 1) j ≡ ltb j w
has_ones zero j = has_zero j ∙ sym (leb-suc-zero j)
has_ones (suc w) zero = has_odd (2 ^ suc w - 1) (omega (arith, two-pow-succ w, pow_pos w)) ∙ sym (lt-ltb 0 (suc w) (omega arith))
has_ones (suc w) (suc j) =
    let half : (2 ^ suc w - 1) / 2 ≡ 2 ^ w - 1 = omega (arith, two-pow-succ w, pow_pos w) in
    sym (has_half (2 ^ suc w - 1) j) ∙ ap (λ (m : ℕ). has m j) half ∙ has_ones w j ∙ sym (leb-suc-suc (suc j) w)

-- The lowest member of an even mask is one above that of its half.
lowest_even : (m k : ℕ) → m % 2 ≡ 0 → Lowest (m / 2) k → Lowest m (suc k)
lowest_even m k even low = (sym (has_half m k) ∙ low.0, below)
  where
    below : (j : ℕ) → j < suc k → has m j ≡ false
    below zero l = has_even m even
    below (suc j) l = sym (has_half m j) ∙ low.1 j (omega arith)

lowest_odd : (m : ℕ) → m % 2 ≡ 1 → Lowest m 0
lowest_odd m odd = (has_odd m odd, λ j l. absurd (omega arith))

-- As many zeros as stand below a mask's lowest set digit, its lowest member is.
pub lowest_is_trailing : (w m : ℕ) → 0 < m → m < 2 ^ w → Lowest m (count_trailing_zeros w m)
unfolding count_trailing_zeros
lowest_is_trailing zero m p h = absurd (omega arith)
lowest_is_trailing (suc w) m p h = at (m % 2) refl (λ q. lowest_is_trailing w (m / 2) q (omega (arith, two-pow-succ w)))
  where
    at : (d : ℕ) → m % 2 ≡ d → (0 < m / 2 → Lowest (m / 2) (count_trailing_zeros w (m / 2))) → Lowest m (under d (count_trailing_zeros w (m / 2)))
    at zero e half = lowest_even m _ e (half (omega arith))
    at (suc d) e half = lowest_odd m (omega arith)

-- What is told of the lowest member: that there is none, or which it is.
pub first_member_is : (m : ℕ) → m < 2 ^ 32 → MatchOption (first_member m) (m ≡ 0) (Lowest m)
unfolding first_member
first_member_is m fits =
    cond_both (eqb m 0) None (Some (count_trailing_zeros 32 m)) (λ o. MatchOption o (m ≡ 0) (Lowest m)) (eqb-true m 0)
    (λ e. let some : m ≡ 0 → ⊥ = eqb-false m 0 e in lowest_is_trailing 32 m (omega arith) fits)
