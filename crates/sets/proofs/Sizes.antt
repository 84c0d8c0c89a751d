-- How many members a mask has.
use Rattle.std.proofs.Common.{◌≡◌, ℕ, zero, suc, ◌+◌, ◌-◌, ◌*◌, ◌/◌, ◌%◌, ◌^◌, ◌<◌, ◌≤◌, Bool, true, false, cond, ◌&&◌, ◌||◌, sym, refl, ap, ◌∙◌, arith}
use native.Mathlib.Nat.{two-pow-succ, sub_self}
use lib.Arith.{bin_ind}
use lib.Bits.{bit_and, bit_or, and_le_l, or_lt, or_add_and}
use lib.Count.{ones, ones_in, ones_step, ones-le}
use Rattle.std.proofs.lemmas.Bool.{eq-eqb}
use Rattle.std.proofs.lemmas.Bool.Decides.{nat_tests}
use Rattle.std.proofs.lemmas.Nat.{zero_from_ones}
use Rattle.sets.specs.Counting.{sum, count}
use Rattle.sets.specs.Members.{has, Within}
use Rattle.sets.proofs.Bits.{and_low, and_half, or_low, or_half, has_and, has_first, has_or, has_half, odd_has, lt_from_within}
use Rattle.sets.proofs.Counts.{count_cong}
use Rattle.sets.proofs.OneMember.{has_power, and_power, off_half, off_low}
use Rattle.sets.proofs.Sums.{sum_front}

-- ---- the number of set digits, and the count of members

pub ones_zero : ones 0 ≡ 0
unfolding ones ones_in
ones_zero = refl

low_tick : (m : ℕ) → cond (has m 0) 1 0 ≡ m % 2
low_tick m = rw (has_first m) (grind (arith, nat_tests))

-- A mask of w digits has as many set digits as members below w.
pub ones_count : (w m : ℕ) → m < 2 ^ w → ones m ≡ count w (has m)
unfolding count sum
ones_count zero m h = let e : m ≡ 0 = omega arith in ap ones e ∙ ones_zero
ones_count (suc w) m h =
    let half : ones (m / 2) ≡ count w (has (m / 2)) = ones_count w (m / 2) (omega (arith, two-pow-succ w)) in
    let above : count w (has (m / 2)) ≡ count w (λ k. has m (suc k)) = count_cong w _ _ (λ k _. has_half m k) in
    omega (arith, ones_step m, half, above, low_tick m, sum_front w (λ k. cond (has m k) 1 0))

pub ones_count_within : (n m : ℕ) → Within n m → ones m ≡ count n (has m)
ones_count_within n m h = ones_count n m (lt_from_within n m h)

-- An intersection and a union, from masks to counts and back.
pub ones_and_count : (w a b : ℕ) → a < 2 ^ w → ones (bit_and a b) ≡ count w (λ k. has a k && has b k)
ones_and_count w a b h =
    ones_count w (bit_and a b) (omega (arith, and_le_l a b)) ∙ count_cong w _ _ (λ k _. has_and a b k)

pub ones_or_count : (w a b : ℕ) → a < 2 ^ w → b < 2 ^ w → ones (bit_or a b) ≡ count w (λ k. has a k || has b k)
ones_or_count w a b h l = ones_count w (bit_or a b) (or_lt w a b h l) ∙ count_cong w _ _ (λ k _. has_or a b k)

-- ---- two masks

-- |A ∪ B| + |A ∩ B| = |A| + |B|
pub ones_or_and : (a b : ℕ) → ones (bit_or a b) + ones (bit_and a b) ≡ ones a + ones b
ones_or_and =
    bin_ind (λ (a : ℕ). (b : ℕ) → ones (bit_or a b) + ones (bit_and a b) ≡ ones a + ones b)
    (λ b. omega (arith, ones_zero))
    (λ a half b. omega (
      arith,
      half (b / 2),
      ones_step a,
      ones_step b,
      ones_step (bit_or a b),
      ones_step (bit_and a b),
      or_low a b,
      and_low a b,
      ap ones (or_half a b),
      ap ones (and_half a b),
    ))

-- An intersection is no larger than a mask.
pub ones_and_le : (a b : ℕ) → ones (bit_and a b) ≤ ones b
ones_and_le =
    bin_ind (λ (a : ℕ). (b : ℕ) → ones (bit_and a b) ≤ ones b)
    (λ b. omega (arith, ones_zero))
    (λ a half b. omega (
      arith,
      half (b / 2),
      ones_step b,
      ones_step (bit_and a b),
      and_low a b,
      ap ones (and_half a b),
    ))

-- An intersection as large as a mask is the mask.
pub and_whole : (a b : ℕ) → ones b ≤ ones (bit_and a b) → bit_and a b ≡ b
and_whole =
    bin_ind (λ (a : ℕ). (b : ℕ) → ones b ≤ ones (bit_and a b) → bit_and a b ≡ b)
    (λ b h. sym (zero_from_ones b (omega (arith, ones_zero))))
    (λ a half b h.
    let shared : ones (bit_and a b) ≡ bit_and a b % 2 + ones (bit_and (a / 2) (b / 2)) =
    ones_step (bit_and a b) ∙ ap (λ (m : ℕ). bit_and a b % 2 + ones m) (and_half a b) in
    let halves : ones (b / 2) ≤ ones (bit_and (a / 2) (b / 2)) = omega (arith, ones_step b, and_low a b) in
    omega (arith, half (b / 2) halves, ones_and_le (a / 2) (b / 2), ones_step b, and_low a b, and_half a b))

-- A subset is no larger.
pub subset_le : (a b : ℕ) → bit_and a b ≡ a → ones a ≤ ones b
subset_le a b e = omega (arith, ones_and_le a b, ap ones e)

-- A subset that is as large is the whole.
pub subset_whole : (a b : ℕ) → bit_and a b ≡ a → ones b ≤ ones a → a ≡ b
subset_whole a b e h = sym e ∙ and_whole a b (omega (arith, ap ones e))

-- A mask within the first n has at most n members.
pub ones_within : (n m : ℕ) → Within n m → ones m ≤ n
ones_within n m h = ones-le n m (lt_from_within n m h)

-- Quorum intersection: two masks within n, each of q members, with 2q > n + t, share more than t members.
pub quorums_meet : (n t q a b : ℕ) → Within n a → Within n b → q ≤ ones a → q ≤ ones b → n + t < 2 * q → t < ones (bit_and a b)
quorums_meet n t q a b ha hb qa qb large =
    omega (arith, ones_or_and a b, ones-le n (bit_or a b) (or_lt n a b (lt_from_within n a ha) (lt_from_within n b hb)))

-- ---- one member

-- A member that leaves lowers the number of members by one.
pub ones_off : (k m : ℕ) → has m k ≡ true → ones m ≡ ones (m - 2 ^ k) + 1
ones_off zero m e =
    let half : (m - 1) / 2 ≡ m / 2 = omega (arith, odd_has m e) in
    omega (arith, ones_step m, ones_step (m - 1), ap ones half, odd_has m e)
ones_off (suc k) m e =
    omega (
      arith,
      ones_off k (m / 2) (has_half m k ∙ e),
      ones_step m,
      ones_step (m - 2 ^ suc k),
      off_low k m e,
      ap ones (off_half k m e),
    )

pub ones_power : (k : ℕ) → ones (2 ^ k) ≡ 1
ones_power k = omega (arith, ones_off k (2 ^ k) (has_power k k ∙ eq-eqb k k refl), ap ones (sub_self (2 ^ k)), ones_zero)

-- A new member raises it by one.
pub ones_put_new : (k m : ℕ) → has m k ≡ false → ones (bit_or m (2 ^ k)) ≡ ones m + 1
ones_put_new k m e =
    let apart : bit_and m (2 ^ k) ≡ 0 = and_power m k ∙ ap (λ (b : Bool). cond b (2 ^ k) 0) e in
    omega (arith, ones_or_and m (2 ^ k), ones_power k, ap ones apart, ones_zero)

-- An old one leaves the mask as it is.
pub put_old : (k m : ℕ) → has m k ≡ true → bit_or m (2 ^ k) ≡ m
put_old k m e =
    let shared : bit_and m (2 ^ k) ≡ 2 ^ k = and_power m k ∙ ap (λ (b : Bool). cond b (2 ^ k) 0) e in
    omega (arith, or_add_and m (2 ^ k), shared)
