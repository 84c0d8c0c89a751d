-- How many members a mask of 32 digits has.
use Rattle.std.proofs.Common.{◌^◌, ◌<◌, arith, rules}
use Rattle.sets.proofs.Laws.{counting_laws}
use Rattle.sets.proofs.Sizes.{ones_count}
use Rattle.sets.proofs.console_set.ConsoleSet.len.Goals as goal

pub returns-clause-counted : goal.returns-clause-counted
returns-clause-counted c = let fits : c.args.self.mask < 2 ^ 32 = omega arith in search (rules, ones_count)

pub returns-clause-laws : goal.returns-clause-laws
returns-clause-laws c = counting_laws
