-- What the tables of a session say, console by console.
use Rattle.std.specs.Prelude.{◌≡◌, ℕ, Bool, true, Some}
use Rattle.sets.specs.Members.{has}
use Rattle.caster.specs.Meanings.{is}
use Rattle.plain_session.specs.Rows.{heard_by, pending_from, lost_from}
use Rattle.plain_session.specs.Sessions.{cast_by, delivered_by}
use Rattle.plain_session.specs.declared.row.Row.{Row}
use Rattle.plain_session.specs.declared.session_table.SessionTable.{SessionTable}
use Rattle.plain_tables.specs.declared.plan.Plan.{Plan}
use Rattle.plain_model.specs.Plans.{is_honest, among}

-- the console has endorsed the number of the row
abbrev pub endorsed : Row → (console : ℕ) → Bool
endorsed r console = has r.endorsed.mask console

-- the sender's endorsement has reached the receiver
abbrev pub heard : Row → (sender receiver : ℕ) → Bool
heard r sender receiver = has (heard_by r receiver).mask sender

-- the copy is under way
abbrev pub pending : Row → (sender receiver : ℕ) → Bool
pending r sender receiver = has (pending_from r sender).mask receiver

-- the copy was lost
abbrev pub lost : Row → (sender receiver : ℕ) → Bool
lost r sender receiver = has (lost_from r sender).mask receiver

-- the console has endorsed some number
abbrev pub voted : SessionTable → (console : ℕ) → Bool
voted t console = has t.voters.mask console

-- how many honest consoles have cast, and delivered, the number
abbrev pub casters : Plan → SessionTable → (number : ℕ) → ℕ
casters p t number = among p (λ c. is (cast_by t c) number)

abbrev pub deliverers : Plan → SessionTable → (number : ℕ) → ℕ
deliverers p t number = among p (λ c. is (delivered_by t c) number)

-- no honest console has cast another number
abbrev pub OnlyCastIn : Plan → SessionTable → (number : ℕ) → Type 0
OnlyCastIn p t number = (c u : ℕ) → is_honest p c ≡ true → cast_by t c ≡ Some u → u ≡ number
