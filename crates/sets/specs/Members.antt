-- Sets of consoles as masks: console k is a member where digit k of the mask is set.
use Rattle.std.specs.Prelude.{◌≡◌, ℕ, ◌+◌, ◌-◌, ◌^◌, ◌<◌, min, Bool, true, false, if◌then◌else◌, not, ◌&&◌, Some, None, Option, MatchOption, ◌==◌, bit_and, bit_or, count_ones, nat_lt}
use Rattle.std.specs.Int.{bit_at}
use Rattle.std.specs.Int.Count.{count_trailing_zeros}
use Rattle.sets.specs.declared.console_set.ConsoleSet.{ConsoleSet}

-- k is a member of the mask m: its digit is 1
unfoldable pub has : ℕ → ℕ → Bool
has m k = bit_at m k == 1

-- every member of m lies below n
abbrev pub Within : ℕ → ℕ → Type 0
Within n m = (k : ℕ) → has m k ≡ true → k < n

-- k is the lowest member of m
abbrev pub Lowest : ℕ → ℕ → Type 0
Lowest m k = (has m k ≡ true) × ((j : ℕ) → j < k → has m j ≡ false)

-- ---- operations on masks of 32 digits

-- the digit of console k, if there is such a console
abbrev pub digit_of : ℕ → ℕ
digit_of k = if nat_lt k 32 then 2 ^ k else 0

-- console k joins m
unfoldable pub with_member : ℕ → ℕ → ℕ
with_member m k = bit_or m (digit_of k)

-- console k leaves m
unfoldable pub without_member : ℕ → ℕ → ℕ
without_member m k = m - bit_and m (digit_of k)

-- the numbers below n, and below 32
unfoldable pub first_mask : ℕ → ℕ
first_mask n = 2 ^ min n 32 - 1

-- every member of a is one of b
unfoldable pub subset : ℕ → ℕ → Bool
subset a b = bit_and a b == a

-- the lowest member of m, if it has one
unfoldable pub first_member : ℕ → Option ℕ
first_member m = if m == 0 then None else Some (count_trailing_zeros 32 m)

-- ---- the same on sets

abbrev pub empty_set : ConsoleSet
empty_set = record { mask = 0 }

abbrev pub first_consoles : ℕ → ConsoleSet
first_consoles n = record { mask = first_mask n }

abbrev pub with_console : ConsoleSet → ℕ → ConsoleSet
with_console s k = record { mask = with_member s.mask k }

abbrev pub without_console : ConsoleSet → ℕ → ConsoleSet
without_console s k = record { mask = without_member s.mask k }

abbrev pub union_set : ConsoleSet → ConsoleSet → ConsoleSet
union_set s t = record { mask = bit_or s.mask t.mask }

abbrev pub intersection_set : ConsoleSet → ConsoleSet → ConsoleSet
intersection_set s t = record { mask = bit_and s.mask t.mask }

abbrev pub difference_set : ConsoleSet → ConsoleSet → ConsoleSet
difference_set s t = record { mask = s.mask - bit_and s.mask t.mask }

-- ---- a walk through a set

-- A step from s gives its lowest member k and leaves t, which is s without k.
pub record Gives (s : ConsoleSet) (k : ℕ) (t : ConsoleSet) : Type 0 where
  pub console : k < 32
  pub lowest : Lowest s.mask k
  pub leaves : t ≡ without_console s k
  pub members : (j : ℕ) → has t.mask j ≡ (has s.mask j && not (j == k))
  pub fewer : count_ones t.mask + 1 ≡ count_ones s.mask

-- No member is left in s, and a step leaves it so.
pub record Ends (s t : ConsoleSet) : Type 0 where
  pub empty : s ≡ empty_set
  pub stays : t ≡ s
  pub none : count_ones s.mask ≡ 0

-- A step from s answers r and leaves t.
abbrev pub Advances : ConsoleSet → Option ℕ → ConsoleSet → Type 0
Advances s r t = (r ≡ first_member s.mask) × MatchOption r (Ends s t) (λ k. Gives s k t)
