-- The members of a union, and its size.
use Rattle.std.proofs.Common.{rules}
use Rattle.sets.proofs.Bits.{has_or}
use Rattle.sets.proofs.Sizes.{ones_or_and}
use Rattle.sets.proofs.console_set.ConsoleSet.union.Goals as goal

pub returns-clause-members : goal.returns-clause-members
returns-clause-members c = search (rules, has_or)

pub returns-clause-sizes : goal.returns-clause-sizes
returns-clause-sizes c = search (rules, ones_or_and)
