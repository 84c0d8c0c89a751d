-- The members of an intersection, and its size.
use Rattle.std.proofs.Common.{◌^◌, ◌<◌, arith, rules}
use Rattle.sets.proofs.Bits.{has_and}
use Rattle.sets.proofs.Sizes.{ones_and_count, quorums_meet}
use Rattle.sets.proofs.console_set.ConsoleSet.intersection.Goals as goal

pub returns-clause-members : goal.returns-clause-members
returns-clause-members c = search (rules, has_and)

pub returns-clause-counted : goal.returns-clause-counted
returns-clause-counted c = let fits : c.args.self.mask < 2 ^ 32 = omega arith in search (rules, ones_and_count)

pub returns-clause-quorums : goal.returns-clause-quorums
returns-clause-quorums c = search (rules, quorums_meet)
