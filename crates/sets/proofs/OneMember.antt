-- A mask that one member joins or leaves.
use Rattle.std.proofs.Common.{◌≡◌, ℕ, zero, suc, ◌-◌, ◌/◌, ◌%◌, ◌^◌, ◌≤◌, Bool, true, false, cond, not, ◌&&◌, ◌||◌, eqb, sym, refl, ap, ◌∙◌, ap₂, ⊎_elim, arith}
use native.Mathlib.Nat.{two-pow-succ, sub-zero}
use lib.Bits.{bit_and, bit_or}
use lib.Dec.{eqb-zero-suc, eqb-suc-zero, eqb-suc-suc}
use Rattle.std.specs.Int.{bit_at}
use Rattle.std.proofs.lemmas.Bool.{cases_eq, eq-eqb, eqb-true, ne_eqb}
use Rattle.std.proofs.lemmas.Nat.Bits.{bit_at-pow_other, bit_at-pow_same}
use Rattle.sets.specs.Members.{has}
use Rattle.sets.proofs.Bits.{has_and, has_or, has_half, has_even, odd_has, has_low, has_zero, same_members}

-- The mask of one member.
pub has_power : (k j : ℕ) → has (2 ^ k) j ≡ eqb j k
unfolding has
has_power k j =
    ⊎_elim
    (λ same.
    ap (λ (i : ℕ). eqb (bit_at (2 ^ k) i) 1) same ∙ ap (λ (d : ℕ). eqb d 1) (bit_at-pow_same k) ∙ sym (eq-eqb j k same))
    (λ other. ap (λ (d : ℕ). eqb d 1) (bit_at-pow_other k j other) ∙ sym (ne_eqb j k other))
    (cases_eq j k)

-- Member k joins.
pub has_put : (m k j : ℕ) → has (bit_or m (2 ^ k)) j ≡ (has m j || eqb j k)
has_put m k j = has_or m (2 ^ k) j ∙ ap (λ (b : Bool). has m j || b) (has_power k j)

-- A mask is at least the digit of a member.
pub digit_le : (k m : ℕ) → has m k ≡ true → 2 ^ k ≤ m
digit_le zero m e = omega (arith, odd_has m e)
digit_le (suc k) m e = omega (arith, two-pow-succ k, digit_le k (m / 2) (has_half m k ∙ e))

-- Halves of a mask from which the digit of a member is taken.
pub off_half : (k m : ℕ) → has m (suc k) ≡ true → (m - 2 ^ suc k) / 2 ≡ m / 2 - 2 ^ k
off_half k m e = omega (arith, two-pow-succ k, digit_le k (m / 2) (has_half m k ∙ e))

pub off_low : (k m : ℕ) → has m (suc k) ≡ true → (m - 2 ^ suc k) % 2 ≡ m % 2
off_low k m e = omega (arith, two-pow-succ k, digit_le k (m / 2) (has_half m k ∙ e))

-- Member k leaves.
pub has_off : (k m j : ℕ) → has m k ≡ true → has (m - 2 ^ k) j ≡ (has m j && not (eqb j k))
has_off zero m zero e = has_even (m - 1) (omega (arith, odd_has m e)) ∙ grind arith
has_off zero m (suc j) e =
    let half : (m - 1) / 2 ≡ m / 2 = omega (arith, odd_has m e) in
    sym (has_half (m - 1) j) ∙ ap (λ (x : ℕ). has x j) half ∙ has_half m j ∙ grind (arith, eqb-suc-zero j)
has_off (suc k) m zero e = has_low (m - 2 ^ suc k) m (off_low k m e) ∙ grind (arith, eqb-zero-suc k)
has_off (suc k) m (suc j) e =
    sym (has_half (m - 2 ^ suc k) j) ∙ ap (λ (x : ℕ). has x j) (off_half k m e)
    ∙ has_off k (m / 2) j (has_half m k ∙ e) ∙ ap₂ (λ (a b : Bool). a && not b) (has_half m j) (sym (eqb-suc-suc j k))

-- Where j is k, its membership is that of k.
pub member_at : (m k j : ℕ) (b : Bool) → has m k ≡ b → eqb j k ≡ true → has m j ≡ b
member_at m k j b e d = ap (has m) (eqb-true j k d) ∙ e

-- Taking off what is no member changes nothing.
pub off_none : (m k j : ℕ) → has m k ≡ false → has m j ≡ (has m j && not (eqb j k))
off_none m k j e = let at_k = member_at m k j false e in grind arith

-- The one member k that m may share with the mask of k.
pub and_power : (m k : ℕ) → bit_and m (2 ^ k) ≡ cond (has m k) (2 ^ k) 0
and_power m k = same_members _ _ (λ j. has_and m (2 ^ k) j ∙ ap (λ (b : Bool). has m j && b) (has_power k j) ∙ at j (has m k) refl)
  where
    at : (j : ℕ) (b : Bool) → has m k ≡ b → (has m j && eqb j k) ≡ has (cond b (2 ^ k) 0) j
    at j true e = let at_k = member_at m k j true e in grind (arith, has_power k j)
    at j false e = let at_k = member_at m k j false e in grind (arith, has_zero j)

pub has_take : (m k j : ℕ) → has (m - bit_and m (2 ^ k)) j ≡ (has m j && not (eqb j k))
has_take m k j = ap (λ (x : ℕ). has (m - x) j) (and_power m k) ∙ at (has m k) refl
  where
    at : (b : Bool) → has m k ≡ b → has (m - cond b (2 ^ k) 0) j ≡ (has m j && not (eqb j k))
    at true e = has_off k m j e
    at false e = ap (λ (x : ℕ). has x j) (sub-zero m) ∙ off_none m k j e
