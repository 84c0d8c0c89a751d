-- A mask beside another: what one has outside the other, and subsets.
use Rattle.std.proofs.Common.{◌≡◌, ℕ, zero, suc, ◌+◌, ◌-◌, ◌/◌, ◌%◌, ◌^◌, ◌<◌, min, Bool, true, not, ◌&&◌, eqb, sym, refl, ap, ap₂, ◌∙◌, arith}
use native.Mathlib.Nat.{two-pow-succ}
use lib.Arith.{bin_ind}
use lib.Bits.{bit_and, and_step, and_le_l, and_zero_l}
use lib.Count.{ones, ones_step}
use Rattle.std.proofs.lemmas.Bool.{and_parts}
use Rattle.std.proofs.lemmas.Bool.Decides.{nat_tests}
use Rattle.sets.specs.Members.{has}
use Rattle.sets.proofs.Bits.{has_and, has_first, has_half, same_members, and_low, and_half}

-- What m has outside d is m without what it shares with d.
pub and_not : (w m d : ℕ) → m < 2 ^ w → d < 2 ^ w → bit_and m ((2 ^ w - 1) - d) ≡ m - bit_and m d
and_not zero m d h l = let e : m ≡ 0 = omega arith in rw e
and_not (suc w) m d h l =
    let double = two-pow-succ w in
    let half : ((2 ^ suc w - 1) - d) / 2 ≡ (2 ^ w - 1) - d / 2 = omega arith in
    let rest = and_not w (m / 2) (d / 2) (omega arith) (omega arith) in
    omega (arith, and_step m ((2 ^ suc w - 1) - d), and_step m d, ap (bit_and (m / 2)) half, rest, and_le_l (m / 2) (d / 2))

rest_half : (m d : ℕ) → (m - bit_and m d) / 2 ≡ m / 2 - bit_and (m / 2) (d / 2)
rest_half m d = omega (arith, and_step m d, and_le_l (m / 2) (d / 2))

rest_low : (m d : ℕ) → (m - bit_and m d) % 2 ≡ m % 2 - min (m % 2) (d % 2)
rest_low m d = omega (arith, and_step m d, and_le_l (m / 2) (d / 2))

low_is_rest : (x y : ℕ) → x < 2 → y < 2 → eqb (x - min x y) 1 ≡ (eqb x 1 && not (eqb y 1))
low_is_rest x y h l = grind (arith, nat_tests)

-- The members of m that d has not.
pub has_rest : (m d k : ℕ) → has (m - bit_and m d) k ≡ (has m k && not (has d k))
has_rest m d zero =
    has_first (m - bit_and m d) ∙ ap (λ (x : ℕ). eqb x 1) (rest_low m d) ∙ low_is_rest (m % 2) (d % 2) (omega arith) (omega arith)
    ∙ ap₂ (λ (a b : Bool). a && not b) (sym (has_first m)) (sym (has_first d))
has_rest m d (suc k) =
    sym (has_half (m - bit_and m d) k) ∙ ap (λ (x : ℕ). has x k) (rest_half m d) ∙ has_rest (m / 2) (d / 2) k
    ∙ ap₂ (λ (a b : Bool). a && not b) (has_half m k) (has_half d k)

-- How many they are.
pub ones_rest : (m d : ℕ) → ones (m - bit_and m d) + ones (bit_and m d) ≡ ones m
unfolding ones
ones_rest =
    bin_ind (λ (m : ℕ). (d : ℕ) → ones (m - bit_and m d) + ones (bit_and m d) ≡ ones m) (λ d. rw (and_zero_l d) refl)
    (λ m half d.
    omega (
      arith,
      half (d / 2),
      ones_step m,
      ones_step (bit_and m d),
      ones_step (m - bit_and m d),
      rest_low m d,
      ap ones (rest_half m d),
      and_low m d,
      ap ones (and_half m d),
    ))

-- An intersection is the first mask exactly if each of its members is one of the second.
pub subset_members : (a b : ℕ) → bit_and a b ≡ a → (k : ℕ) → has a k ≡ true → has b k ≡ true
subset_members a b e k h = (and_parts (has a k) (has b k) (sym (has_and a b k) ∙ ap (λ (m : ℕ). has m k) e ∙ h)).1

pub members_subset : (a b : ℕ) → ((k : ℕ) → has a k ≡ true → has b k ≡ true) → bit_and a b ≡ a
members_subset a b each = same_members _ _ (λ k. let at_k = each k in has_and a b k ∙ grind arith)
