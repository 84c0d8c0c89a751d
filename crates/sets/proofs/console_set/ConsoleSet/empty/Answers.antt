-- The mask 0 has no member.
use Rattle.std.proofs.Common.{rules}
use Rattle.sets.proofs.Bits.{has_zero}
use Rattle.sets.proofs.console_set.ConsoleSet.empty.Goals as goal

pub returns-clause-members : goal.returns-clause-members
returns-clause-members c = search (rules, has_zero)
