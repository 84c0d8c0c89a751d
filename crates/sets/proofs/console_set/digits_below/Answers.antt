-- A power of two less one has all the digits below it.
use Rattle.std.proofs.Common.{rules}
use Rattle.sets.specs.Members.{first_mask}
use Rattle.sets.proofs.console_set.digits_below.Goals as goal

pub returns-then-n-lt-CONSOLES : goal.returns-then-n-lt-CONSOLES
unfolding first_mask
returns-then-n-lt-CONSOLES c = search rules

pub returns-else-n-lt-CONSOLES : goal.returns-else-n-lt-CONSOLES
unfolding first_mask
returns-else-n-lt-CONSOLES c = search rules
