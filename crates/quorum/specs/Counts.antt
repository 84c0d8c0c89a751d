-- The counts that a floor may have: 1 to 32 consoles, and no more Byzantine or lost than consoles.
use Rattle.std.specs.Prelude.{ℕ, Bool, cond, ◌&&◌, Some, None, Option, nat_le}
use Rattle.std.specs.Option.{option_map}
use Rattle.quorum.specs.declared.counts.Counts.{Counts}

abbrev pub in_range : (consoles byzantine lost : ℕ) → Bool
in_range consoles byzantine lost =
    nat_le 1 consoles && (nat_le consoles 32 && (nat_le byzantine consoles && nat_le lost consoles))

abbrev pub counts_answer : (consoles byzantine lost : ℕ) → Option (ℕ × ℕ × ℕ)
counts_answer consoles byzantine lost = cond (in_range consoles byzantine lost) (Some (consoles, byzantine, lost)) None

-- counts by their three numbers
abbrev pub counts_made : Option Counts → Option (ℕ × ℕ × ℕ)
counts_made r = option_map (λ c. (c.consoles, c.byzantine, c.lost)) r
