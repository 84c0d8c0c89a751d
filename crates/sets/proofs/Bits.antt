-- Membership in a mask, digit by digit.
use Rattle.std.proofs.Common.{◌≡◌, ℕ, zero, suc, ◌/◌, ◌%◌, ◌^◌, ◌<◌, ◌≤◌, min, max, true, false, ◌&&◌, ◌||◌, eqb, sym, refl, ap, ◌∙◌, ⊎_elim, arith}
use native.Mathlib.Nat.{two-pow-succ}
use lib.Arith.{bin_ind}
use lib.Bits.{bit_and, bit_or, and_step, or_step}
use Rattle.std.proofs.lemmas.Bool.{eqb-true, eqb-false, eq-eqb, ne_eqb, both_ways, cases_Bool, cases_lt}
use Rattle.std.proofs.lemmas.Bool.Decides.{nat_tests}
use Rattle.std.specs.Int.{bit_at}
use Rattle.std.proofs.lemmas.Nat.Bits.{bit_at-lt, bit_at-suc, bit_at-zero, bit_at_and, bit_at_lowest, bit_at_or}
use Rattle.sets.specs.Members.{has, Within}

-- ---- digits

-- The lowest digit of an intersection or a union, and the digits above it.
pub and_low : (a b : ℕ) → bit_and a b % 2 ≡ min (a % 2) (b % 2)
and_low a b = omega (arith, and_step a b)

pub and_half : (a b : ℕ) → bit_and a b / 2 ≡ bit_and (a / 2) (b / 2)
and_half a b = omega (arith, and_step a b)

pub or_low : (a b : ℕ) → bit_or a b % 2 ≡ max (a % 2) (b % 2)
or_low a b = omega (arith, or_step a b)

pub or_half : (a b : ℕ) → bit_or a b / 2 ≡ bit_or (a / 2) (b / 2)
or_half a b = omega (arith, or_step a b)

-- ---- members

min_is_and : (x y : ℕ) → x < 2 → y < 2 → eqb (min x y) 1 ≡ (eqb x 1 && eqb y 1)
min_is_and x y h l = grind (arith, nat_tests)

max_is_or : (x y : ℕ) → x < 2 → y < 2 → eqb (max x y) 1 ≡ (eqb x 1 || eqb y 1)
max_is_or x y h l = grind (arith, nat_tests)

pub has_and : (a b k : ℕ) → has (bit_and a b) k ≡ (has a k && has b k)
unfolding has
has_and a b k = ap (λ (d : ℕ). eqb d 1) (bit_at_and a b k) ∙ min_is_and (bit_at a k) (bit_at b k) (bit_at-lt a k) (bit_at-lt b k)

pub has_or : (a b k : ℕ) → has (bit_or a b) k ≡ (has a k || has b k)
unfolding has
has_or a b k = ap (λ (d : ℕ). eqb d 1) (bit_at_or a b k) ∙ max_is_or (bit_at a k) (bit_at b k) (bit_at-lt a k) (bit_at-lt b k)

-- The digits above the lowest are those of the half.
pub has_half : (m k : ℕ) → has (m / 2) k ≡ has m (suc k)
unfolding has
has_half m k = ap (λ (d : ℕ). eqb d 1) (sym (bit_at-suc m k))

-- 0 is a member of the odd masks.
pub has_first : (m : ℕ) → has m 0 ≡ eqb (m % 2) 1
unfolding has
has_first m = ap (λ (d : ℕ). eqb d 1) (bit_at_lowest m)

pub has_odd : (m : ℕ) → m % 2 ≡ 1 → has m 0 ≡ true
has_odd m e = has_first m ∙ eq-eqb _ _ e

pub has_even : (m : ℕ) → m % 2 ≡ 0 → has m 0 ≡ false
has_even m e = has_first m ∙ ne_eqb _ _ (λ d. omega arith)

pub odd_has : (m : ℕ) → has m 0 ≡ true → m % 2 ≡ 1
odd_has m e = eqb-true _ _ (sym (has_first m) ∙ e)

pub even_has : (m : ℕ) → has m 0 ≡ false → m % 2 ≡ 0
even_has m e = let not_odd : m % 2 ≡ 1 → ⊥ = eqb-false _ _ (sym (has_first m) ∙ e) in omega arith

-- The empty mask has no member, and no other mask has none.
pub has_zero : (k : ℕ) → has 0 k ≡ false
unfolding has
has_zero k = ap (λ (d : ℕ). eqb d 1) (bit_at-zero k)

pub no_members : (m : ℕ) → ((k : ℕ) → has m k ≡ false) → m ≡ 0
no_members =
    bin_ind (λ (m : ℕ). ((k : ℕ) → has m k ≡ false) → m ≡ 0) (λ _. refl)
    (λ m half none. omega (arith, half (λ k. has_half m k ∙ none (suc k)), even_has m (none 0)))

pub has_low : (a b : ℕ) → a % 2 ≡ b % 2 → has a 0 ≡ has b 0
has_low a b e = has_first a ∙ ap (λ (d : ℕ). eqb d 1) e ∙ sym (has_first b)

same_low : (a b : ℕ) → has a 0 ≡ has b 0 → a % 2 ≡ b % 2
same_low a b e = let tests : eqb (a % 2) 1 ≡ eqb (b % 2) 1 = sym (has_first a) ∙ e ∙ has_first b in grind (arith, nat_tests)

-- Two masks with the same members are equal.
pub same_members : (a b : ℕ) → ((k : ℕ) → has a k ≡ has b k) → a ≡ b
same_members =
    bin_ind (λ (a : ℕ). (b : ℕ) → ((k : ℕ) → has a k ≡ has b k) → a ≡ b)
    (λ b same. sym (no_members b (λ k. sym (same k) ∙ has_zero k)))
    (λ a half b same. omega (arith, half (b / 2) (λ k. has_half a k ∙ same (suc k) ∙ sym (has_half b k)), same_low a b (same 0)))

-- A mask of w digits has its members below w.
pub has_beyond : (w m k : ℕ) → m < 2 ^ w → w ≤ k → has m k ≡ false
has_beyond zero m k h l = let e : m ≡ 0 = omega arith in ap (λ (x : ℕ). has x k) e ∙ has_zero k
has_beyond (suc w) m zero h l = absurd (omega arith)
has_beyond (suc w) m (suc k) h l = sym (has_half m k) ∙ has_beyond w (m / 2) k (omega (arith, two-pow-succ w)) (omega arith)

pub within_from_lt : (n m : ℕ) → m < 2 ^ n → Within n m
within_from_lt n m h k e = ⊎_elim (λ l. l) (λ l. absurd (both_ways (has m k) (has_beyond n m k h l) e)) (cases_lt k n)

none_within_zero : (m : ℕ) → Within 0 m → (k : ℕ) → has m k ≡ false
none_within_zero m h k = ⊎_elim (λ e. absurd (let z : k < 0 = h k e in omega arith)) (λ e. e) (cases_Bool (has m k))

pub lt_from_within : (n m : ℕ) → Within n m → m < 2 ^ n
lt_from_within zero m h = omega (arith, no_members m (none_within_zero m h))
lt_from_within (suc n) m h =
    omega (arith, two-pow-succ n, lt_from_within n (m / 2) (λ k e. let l : suc k < suc n = h (suc k) (sym (has_half m k) ∙ e) in omega arith))
