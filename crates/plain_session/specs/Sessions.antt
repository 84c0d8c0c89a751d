-- One session: a row for each payload number, and what each console has cast and delivered.
use Rattle.std.specs.Prelude.{ℕ, [], replicate, Some, None, Option, option_map, option_and_then, slice_index_or, slice_set}
use Rattle.sets.specs.Members.{empty_set, with_console, first_member}
use Rattle.sets.specs.declared.console_set.ConsoleSet.{ConsoleSet}
use Rattle.plain_session.specs.Agendas.{nothing, noted}
use Rattle.plain_session.specs.Rows.{empty_row, pending_from, busy_row, hear_row, settle_row, lose_row, endorse_row}
use Rattle.plain_session.specs.declared.endorsement.Endorsement.{Endorsement}
use Rattle.plain_session.specs.declared.row.Row.{Row}
use Rattle.plain_session.specs.declared.session_table.SessionTable.{SessionTable}

abbrev pub empty_session : SessionTable
empty_session = record {
  rows = replicate 8 empty_row;
  voters = empty_set;
  casts = replicate 32 None;
  deliveries = replicate 32 None;
  numbers = nothing;
}

-- a number that no table has
abbrev pub silent_row : Row
silent_row = record { endorsed = empty_set; heard = []; pending = []; lost = []; senders = nothing }

-- what has happened to a number
abbrev pub row_of : SessionTable → (number : ℕ) → Row
row_of t number = slice_index_or t.rows number silent_row

abbrev pub cast_by : SessionTable → (console : ℕ) → Option ℕ
cast_by t console = slice_index_or t.casts console None

abbrev pub delivered_by : SessionTable → (console : ℕ) → Option ℕ
delivered_by t console = slice_index_or t.deliveries console None

-- ---- the next copy

-- by masks: the lowest receiver that the sender has a copy under way to
abbrev pub first_from : Row → (session number sender : ℕ) → Option Endorsement
first_from row session number sender =
    option_map (λ receiver. record { sender = sender; receiver = receiver; session = session; number = number })
    (first_member (pending_from row sender).mask)

-- the first copy of the lowest sender that has copies of the number under way
abbrev pub first_of_number : Row → (session number : ℕ) → Option Endorsement
first_of_number row session number = option_and_then (first_from row session number) (first_member row.senders.places.mask)

-- the first copy of the lowest number that has copies under way
abbrev pub first_copy : SessionTable → (session : ℕ) → Option Endorsement
first_copy t session =
    option_and_then (λ number. first_of_number (row_of t number) session number) (first_member t.numbers.places.mask)

-- ---- one write

-- this has happened to the number, and these consoles have endorsed some number
abbrev pub with_row : SessionTable → (number : ℕ) → Row → (voters : ConsoleSet) → SessionTable
with_row t number row voters = record t {
  rows = slice_set t.rows number row;
  voters = voters;
  numbers = noted t.numbers number (busy_row row);
}

-- the sender's endorsement has reached the receiver
abbrev pub hear_table : SessionTable → (number sender receiver : ℕ) → SessionTable
hear_table t number sender receiver = record t { rows = slice_set t.rows number (hear_row (row_of t number) sender receiver) }

-- the copy is marked as lost
abbrev pub lose_table : SessionTable → (number sender receiver : ℕ) → SessionTable
lose_table t number sender receiver = record t { rows = slice_set t.rows number (lose_row (row_of t number) sender receiver) }

-- the copy is no longer under way
abbrev pub settle_table : SessionTable → (number sender receiver : ℕ) → SessionTable
settle_table t number sender receiver = with_row t number (settle_row (row_of t number) sender receiver) t.voters

-- the console endorses the number
abbrev pub endorse_table : SessionTable → (number console : ℕ) → (honest : ConsoleSet) → SessionTable
endorse_table t number console honest =
    with_row t number (endorse_row (row_of t number) console honest) (with_console t.voters console)

-- the console delivers the number
abbrev pub deliver_table : SessionTable → (number console : ℕ) → SessionTable
deliver_table t number console = record t { deliveries = slice_set t.deliveries console (Some number) }

-- the number is recorded as cast by the console
abbrev pub record_table : SessionTable → (number console : ℕ) → SessionTable
record_table t number console = record t { casts = slice_set t.casts console (Some number) }
