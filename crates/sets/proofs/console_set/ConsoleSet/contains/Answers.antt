-- A console is a member where its digit is shared.
use Rattle.std.proofs.Common.{◌^◌, ◌<◌, arith, rules}
use Rattle.sets.proofs.Bits.{within_from_lt}
use Rattle.sets.proofs.Operations.{has_by_digit}
use Rattle.sets.proofs.console_set.ConsoleSet.contains.Goals as goal

pub returns : goal.returns
returns c =
    let m = c.args.self.mask in
    let fits : m < 2 ^ 32 = omega arith in
    let shared = has_by_digit m c.args.console fits in
    let inside = within_from_lt 32 m fits c.args.console in
    record { member = search rules; bounded = search rules }
