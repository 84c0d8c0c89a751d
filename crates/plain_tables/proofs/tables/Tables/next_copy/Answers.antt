use Rattle.std.proofs.Common.{rules}
use Rattle.std.proofs.lemmas.List.{get_or_past}
use Rattle.sets.specs.Members.{first_member}
use Rattle.plain_tables.proofs.tables.Tables.next_copy.Goals as goal

pub returns-in_err-get : goal.returns-in_err-get
unfolding first_member
returns-in_err-get c = search (rules, get_or_past)
