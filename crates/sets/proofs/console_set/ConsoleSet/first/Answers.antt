-- The zeros below the lowest set digit lead to the lowest member.
use Rattle.std.proofs.Common.{◌^◌, ◌<◌, arith, rules}
use Rattle.sets.specs.Members.{first_member}
use Rattle.sets.proofs.Bits.{within_from_lt}
use Rattle.sets.proofs.Fronts.{lowest_is_trailing}
use Rattle.sets.proofs.console_set.ConsoleSet.first.Goals as goal

pub returns-then-is_empty : goal.returns-then-is_empty
unfolding first_member
returns-then-is_empty c = search rules

pub returns-else-is_empty : goal.returns-else-is_empty
unfolding first_member
returns-else-is_empty c =
    let m = c.args.self.mask in
    let fits : m < 2 ^ 32 = omega arith in
    let some : 0 < m = search rules in
    let low = lowest_is_trailing 32 m some fits in
    record { answer = search rules; lowest = (within_from_lt 32 m fits _ low.0, low) }
