-- What each operation on masks of 32 digits does to the members and to their number.
use Rattle.std.proofs.Common.{◌≡◌, ℕ, ◌+◌, ◌-◌, ◌^◌, ◌<◌, ◌≤◌, min, Bool, true, false, cond, not, ◌&&◌, ◌||◌, eqb, ltb, sym, refl, ap, ◌∙◌, ⊎_elim, arith, pow_pos}
use native.Mathlib.Nat.{sub-zero}
use lib.Bits.{bit_and, bit_or, and_zero_r, or_lt, or_zero_r}
use lib.Count.{ones, ones-ones}
use Rattle.std.proofs.lemmas.Nat.{pow_below}
use Rattle.std.proofs.lemmas.Bool.{cases_lt, cond_both, lt-ltb, le-ltb, ltb-true, ne_eqb, and_parts}
use Rattle.std.proofs.lemmas.Bool.Decides.{nat_tests}
use Rattle.sets.specs.Members.{has, Within, digit_of, with_member, without_member, first_mask}
use Rattle.sets.proofs.Bits.{has_or, has_zero, has_beyond, within_from_lt}
use Rattle.sets.proofs.Fronts.{has_ones}
use Rattle.sets.proofs.OneMember.{has_power, has_take, off_none, and_power}
use Rattle.sets.proofs.Sizes.{ones_zero, ones_or_and, ones_power, ones_put_new, put_old, ones_off}

-- ---- members

pub has_with_member : (m k j : ℕ) → has (with_member m k) j ≡ (has m j || (eqb j k && ltb k 32))
unfolding with_member
has_with_member m k j = has_or m (digit_of k) j ∙ ap (λ (b : Bool). has m j || b) (at (ltb k 32))
  where
    at : (b : Bool) → has (cond b (2 ^ k) 0) j ≡ (eqb j k && b)
    at true = has_power k j ∙ grind arith
    at false = has_zero j ∙ grind arith

pub has_without_member : (m k j : ℕ) → m < 2 ^ 32 → has (without_member m k) j ≡ (has m j && not (eqb j k))
unfolding without_member
has_without_member m k j h = ⊎_elim
    (λ l. rw (lt-ltb k 32 l) (has_take m k j))
    (λ l. rw (le-ltb k 32 l) (rw (and_zero_r m) (rw (sub-zero m) (off_none m k j (has_beyond 32 m k h l)))))
    (cases_lt k 32)

-- A console is a member where its digit is shared.
pub has_by_digit : (m k : ℕ) → m < 2 ^ 32 → not (eqb (bit_and m (digit_of k)) 0) ≡ has m k
has_by_digit m k h = ⊎_elim
    (λ l. rw (lt-ltb k 32 l) (rw (and_power m k) (at (has m k))))
    (λ l. rw (le-ltb k 32 l) (rw (and_zero_r m) (sym (has_beyond 32 m k h l))))
    (cases_lt k 32)
  where
    at : (b : Bool) → not (eqb (cond b (2 ^ k) 0) 0) ≡ b
    at true = ap not (ne_eqb (2 ^ k) 0 (λ e. omega (arith, pow_pos k)))
    at false = refl

pub has_first_mask : (n j : ℕ) → has (first_mask n) j ≡ (ltb j n && ltb j 32)
unfolding first_mask
has_first_mask n j = has_ones (min n 32) j ∙ grind (arith, nat_tests)

pub first_mask_within : (n : ℕ) → Within n (first_mask n)
first_mask_within n k e = ltb-true k n (and_parts _ _ (sym (has_first_mask n k) ∙ e)).0

-- ---- how many members

pub ones_with_new : (m k : ℕ) → has m k ≡ false → k < 32 → ones (with_member m k) ≡ ones m + 1
unfolding with_member
ones_with_new m k e h = rw (lt-ltb k 32 h) (ones_put_new k m e)

pub with_old : (m k : ℕ) → has m k ≡ true → with_member m k ≡ m
unfolding with_member
with_old m k e = at (ltb k 32)
  where
    at : (b : Bool) → bit_or m (cond b (2 ^ k) 0) ≡ m
    at true = put_old k m e
    at false = or_zero_r m

pub with_beyond : (m k : ℕ) → 32 ≤ k → with_member m k ≡ m
unfolding with_member
with_beyond m k h = rw (le-ltb k 32 h) (or_zero_r m)

pub ones_without_old : (m k : ℕ) → m < 2 ^ 32 → has m k ≡ true → ones (without_member m k) + 1 ≡ ones m
unfolding without_member
ones_without_old m k h e =
    let known : bit_and m (2 ^ k) ≡ 2 ^ k = and_power m k ∙ ap (λ (b : Bool). cond b (2 ^ k) 0) e in
    let shared : bit_and m (digit_of k) ≡ 2 ^ k = rw (lt-ltb k 32 (within_from_lt 32 m h k e)) known in
    omega (arith, ones_off k m e, ap (λ (x : ℕ). ones (m - x)) shared)

pub without_none : (m k : ℕ) → has m k ≡ false → without_member m k ≡ m
unfolding without_member
without_none m k e = ap (λ (x : ℕ). m - x) (at (ltb k 32)) ∙ sub-zero m
  where
    at : (b : Bool) → bit_and m (cond b (2 ^ k) 0) ≡ 0
    at true = and_power m k ∙ ap (λ (b : Bool). cond b (2 ^ k) 0) e
    at false = and_zero_r m

pub ones_first_mask : (n : ℕ) → ones (first_mask n) ≡ min n 32
unfolding first_mask
ones_first_mask n = ones-ones (min n 32)

-- a console below n leaves a set within the first n
pub with_member_lt : (n m k : ℕ) → m < 2 ^ n → k < n → with_member m k < 2 ^ n
unfolding with_member
with_member_lt n m k h l =
    or_lt n m (digit_of k) h (cond_both (ltb k 32) (2 ^ k) 0 (λ x. x < 2 ^ n) (λ _. pow_below k n l) (λ _. pow_pos n))

-- one console raises the number of members by at most one
pub ones_with_le : (m k : ℕ) → ones (with_member m k) ≤ ones m + 1
unfolding with_member
ones_with_le m k =
    let one : ones (digit_of k) ≤ 1 = cond_both (ltb k 32) (2 ^ k) 0 (λ x. ones x ≤ 1) (λ _. omega (arith, ones_power k)) (λ _. omega (arith, ones_zero)) in
    omega (arith, ones_or_and m (digit_of k))
