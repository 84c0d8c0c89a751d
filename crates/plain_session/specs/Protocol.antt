-- What the consoles of a plain caster do in a session. docs/casters.md has the rules in words.
use Rattle.std.specs.Prelude.{ℕ, Bool, if◌then◌else◌, not, ◌&&◌, ◌||◌, is_some, count_ones, nat_le}
use Rattle.sets.specs.Members.{has}
use Rattle.plain_session.specs.Rows.{heard_by}
use Rattle.plain_session.specs.Sessions.{row_of, delivered_by, hear_table, lose_table, settle_table, endorse_table, deliver_table, record_table}
use Rattle.plain_session.specs.declared.session_table.SessionTable.{SessionTable}
use Rattle.plain_session.specs.declared.setting.Setting.{Setting}

-- So many consoles have endorsed the number to this one.
abbrev pub heard_count : SessionTable → (number console : ℕ) → ℕ
heard_count t number console = count_ones (heard_by (row_of t number) console).mask

-- It has heard the number often enough, and has endorsed nothing or, unless single, not this number.
abbrev pub may_endorse : Setting → SessionTable → (number console : ℕ) → Bool
may_endorse setting t number console =
    nat_le setting.thresholds.forward (heard_count t number console)
    && (not (has t.voters.mask console) || (not setting.thresholds.single && not (has (row_of t number).endorsed.mask console)))

-- It has heard the number often enough, and has delivered nothing.
abbrev pub may_deliver : Setting → SessionTable → (number console : ℕ) → Bool
may_deliver setting t number console =
    nat_le setting.thresholds.deliver (heard_count t number console) && not (is_some (delivered_by t console))

abbrev pub forwarded : Setting → SessionTable → (number console : ℕ) → SessionTable
forwarded setting t number console =
    if may_endorse setting t number console then endorse_table t number console setting.honest else t

abbrev pub finished : Setting → SessionTable → (number console : ℕ) → SessionTable
finished setting t number console =
    if may_deliver setting t number console then deliver_table t number console else t

-- An endorsement arrives: it is counted, then tried for forwarding, then for delivery.
abbrev pub heard_and_forwarded : Setting → SessionTable → (number sender receiver : ℕ) → SessionTable
heard_and_forwarded setting t number sender receiver =
    forwarded setting (hear_table t number sender receiver) number receiver

abbrev pub received : Setting → SessionTable → (number sender receiver : ℕ) → SessionTable
received setting t number sender receiver =
    finished setting (heard_and_forwarded setting t number sender receiver) number receiver

-- The endorsement that arrives makes the receiver deliver.
abbrev pub delivers : Setting → SessionTable → (number sender receiver : ℕ) → Bool
delivers setting t number sender receiver =
    may_deliver setting (heard_and_forwarded setting t number sender receiver) number receiver

-- A copy is handed over.
abbrev pub handed : Setting → SessionTable → (number sender receiver : ℕ) → SessionTable
handed setting t number sender receiver =
    received setting (settle_table t number sender receiver) number sender receiver

-- A copy is lost.
abbrev pub lost_copy : SessionTable → (number sender receiver : ℕ) → SessionTable
lost_copy t number sender receiver = settle_table (lose_table t number sender receiver) number sender receiver

-- A cast makes the console endorse, unless it has endorsed some number in the session.
abbrev pub casting : Setting → SessionTable → (number console : ℕ) → SessionTable
casting setting t number console =
    record_table (if has t.voters.mask console then t else endorse_table t number console setting.honest) number console
