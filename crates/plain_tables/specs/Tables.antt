-- All sessions of a plain caster, and what an event or a cast does to them.
use Rattle.std.specs.Prelude.{ℕ, ◌-◌, Bool, not, [], replicate, Option, option_and_then, ◌==◌, count_ones, slice_index_or, slice_set}
use Rattle.sets.specs.Members.{has, empty_set, first_member}
use Rattle.caster.specs.declared.delivery.Delivery.{Delivery}
use Rattle.plain_session.specs.Agendas.{nothing, noted}
use Rattle.plain_session.specs.Places.{delivery_if, receiving}
use Rattle.plain_session.specs.Protocol.{received, delivers, handed, lost_copy, casting}
use Rattle.plain_session.specs.Rows.{heard_by, pending_from, lost_from}
use Rattle.plain_session.specs.Sessions.{empty_session, row_of, first_copy, settle_table}
use Rattle.plain_session.specs.declared.endorsement.Endorsement.{Endorsement}
use Rattle.plain_session.specs.declared.row.Row.{Row}
use Rattle.plain_session.specs.declared.session_table.SessionTable.{SessionTable}
use Rattle.plain_session.specs.declared.setting.Setting.{Setting}
use Rattle.plain_tables.specs.declared.tables.Tables.{Tables}

-- nothing has happened, and so many steps can come
abbrev pub empty_tables : (left : ℕ) → Tables
empty_tables left = record { sessions = replicate 16 empty_session; busy = nothing; left = left }

-- a session that no table has
abbrev pub silent_session : SessionTable
silent_session = record { rows = []; voters = empty_set; casts = []; deliveries = []; numbers = nothing }

-- what has happened in a session
abbrev pub session_of : Tables → (session : ℕ) → SessionTable
session_of x session = slice_index_or x.sessions session silent_session

-- some copy is under way in the session
abbrev pub busy_session : SessionTable → Bool
busy_session t = not (t.numbers.places.mask == 0)

-- ---- what happens in a session

-- whether copies are under way in the session is noted
abbrev pub note_tables : Tables → (session : ℕ) → Tables
note_tables x session = record x { busy = noted x.busy session (busy_session (session_of x session)) }

-- this has happened in the session
abbrev pub with_session : Tables → (session : ℕ) → SessionTable → Tables
with_session x session t = record x {
  sessions = slice_set x.sessions session t;
  busy = noted x.busy session (busy_session t);
}

-- one step fewer can come
abbrev pub lowered : Tables → Tables
lowered x = record x { left = x.left - 1 }

-- an endorsement reaches its receiver
abbrev pub receive_tables : Setting → Tables → Endorsement → Tables
receive_tables setting x e =
    with_session x e.session (received setting (session_of x e.session) e.number e.sender e.receiver)

-- a copy is handed over
abbrev pub hand_tables : Setting → Tables → Endorsement → Tables
hand_tables setting x e =
    lowered (with_session x e.session (handed setting (session_of x e.session) e.number e.sender e.receiver))

-- a copy is lost
abbrev pub lose_tables : Tables → Endorsement → Tables
lose_tables x e =
    lowered (with_session x e.session (lost_copy (session_of x e.session) e.number e.sender e.receiver))

-- a console casts a number
abbrev pub cast_tables : Setting → Tables → (console session number : ℕ) → Tables
cast_tables setting x console session number =
    with_session x session (casting setting (session_of x session) number console)

-- ---- what is delivered

abbrev pub receive_delivery : Setting → Tables → Endorsement → Option Delivery
receive_delivery setting x e =
    delivery_if (delivers setting (session_of x e.session) e.number e.sender e.receiver) (receiving e)

abbrev pub hand_delivery : Setting → Tables → Endorsement → Option Delivery
hand_delivery setting x e =
    delivery_if
    (delivers setting (settle_table (session_of x e.session) e.number e.sender e.receiver) e.number e.sender
    e.receiver) (receiving e)

-- ---- questions

-- no copy is under way
abbrev pub quiet : Tables → Bool
quiet x = x.busy.places.mask == 0

-- what has happened to the number of an endorsement
abbrev row_for : Tables → Endorsement → Row
row_for x e = row_of (session_of x e.session) e.number

-- the copy is under way
abbrev pub under_way : Tables → Endorsement → Bool
under_way x e = has (pending_from (row_for x e) e.sender).mask e.receiver

-- the receiver has the endorsement
abbrev pub has_heard : Tables → Endorsement → Bool
has_heard x e = has (heard_by (row_for x e) e.receiver).mask e.sender

-- so many copies of the sender's endorsement were lost
abbrev pub losses : Tables → Endorsement → ℕ
losses x e = count_ones (lost_from (row_for x e) e.sender).mask

-- ---- the next copy

-- the first copy of the lowest session that has copies under way
abbrev pub next_copy : Tables → Option Endorsement
next_copy x =
    option_and_then (λ session. first_copy (session_of x session) session) (first_member x.busy.places.mask)
