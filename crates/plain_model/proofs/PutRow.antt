-- The table of a session stays in order when the row of one number is replaced by one that is.
use Rattle.std.proofs.Common.{◌≡◌, ℕ, ◌^◌, ◌<◌, List, length, get_or, set, refl, ap, ◌∙◌, arith}
use lib.Count.{ones}
use Rattle.std.proofs.lemmas.List.{get_or-set_same, length-set}
use Rattle.sets.specs.Members.{has, empty_set}
use Rattle.sets.specs.declared.console_set.ConsoleSet.{ConsoleSet}
use Rattle.plain_session.specs.Protocol.{heard_count}
use Rattle.plain_session.specs.Rows.{busy_row}
use Rattle.plain_session.specs.Sessions.{row_of, silent_row, with_row}
use Rattle.plain_session.specs.declared.agenda.Agenda.{Agenda}
use Rattle.plain_session.specs.declared.row.Row.{Row}
use Rattle.plain_session.specs.declared.session_table.SessionTable.{SessionTable}
use Rattle.plain_tables.specs.declared.plan.Plan.{Plan}
use Rattle.plain_model.specs.Invariant.{RowSized, GoodRow, GoodTable}
use Rattle.plain_model.proofs.AfterWrites.{by_place, noted_after, noted_fits}

-- This has happened to the number, these consoles have endorsed some number, and these numbers have copies under way.
abbrev pub put_row : SessionTable → (number : ℕ) → Row → (voters : ConsoleSet) → Agenda → SessionTable
put_row t number row voters numbers = record {
  rows = set t.rows number row;
  voters = voters;
  casts = t.casts;
  deliveries = t.deliveries;
  numbers = numbers;
}

-- What holds between the old row and the new one, and between each row and itself, holds between the rows before and after.
pub row_by_row :
    (R : ℕ → Row → Row → Type 0) (t : SessionTable) (v : ℕ) (r : Row) (w : ConsoleSet) (a : Agenda) → R v (row_of t v) r
    → ((u : ℕ) → R u (row_of t u) (row_of t u)) → (u : ℕ) → R u (row_of t u) (row_of (put_row t v r w a) u)
row_by_row R t v r w a new same = by_place (λ u. R u (row_of t u)) t.rows v r silent_row new same

-- The row is read as it was put.
pub put_here :
    (t : SessionTable) (v : ℕ) (r : Row) (w : ConsoleSet) (a : Agenda) → v < length t.rows → row_of (put_row t v r w a) v ≡ r
put_here t v r w a known = get_or-set_same t.rows v r silent_row known

-- Where the consoles have heard the same, the counts stay.
pub counts_same :
    (t : SessionTable) (v : ℕ) (r : Row) (w : ConsoleSet) (a : Agenda) → r.heard ≡ (row_of t v).heard
    → (u k : ℕ) → heard_count (put_row t v r w a) u k ≡ heard_count t u k
counts_same t v r w a same u k =
    ap (λ (h : List ConsoleSet). ones (get_or h k empty_set).mask)
    (row_by_row (λ u old new. new.heard ≡ old.heard) t v r w a same (λ u. refl) u)

-- The numbers with copies under way are noted.
abbrev pub Noted : SessionTable → Type 0
Noted t = (t.numbers.places.mask < 2 ^ 32) × ((u : ℕ) → has t.numbers.places.mask u ≡ busy_row (row_of t u))

-- So they are when the number is noted as its new row tells.
pub with_row_noted :
    (p : Plan) (t : SessionTable) (v : ℕ) (r : Row) (w : ConsoleSet) → GoodTable p t → v < 8 → Noted (with_row t v r w)
with_row_noted p t v r w old known = (
  noted_fits t.numbers v (busy_row r) (omega arith) old.number_places,
  noted_after busy_row t.numbers t.rows v r silent_row (omega (arith, old.row_places)) (omega arith) old.number_places
      old.numbers_noted,
)

-- The table stays in order, if the new row is in order and the numbers are noted.
pub put_table :
    (p : Plan) (t : SessionTable) (v : ℕ) (r : Row) (w : ConsoleSet) (a : Agenda) → GoodTable p t → RowSized r → GoodRow p v r
    → Noted (put_row t v r w a) → GoodTable p (put_row t v r w a)
put_table p t v r w a old sized good noted =
    record {
      row_places = length-set t.rows v r ∙ old.row_places;
      cast_places = old.cast_places;
      delivery_places = old.delivery_places;
      rows_sized = by_place (λ u x. u < 8 → RowSized x) t.rows v r silent_row (λ _. sized) old.rows_sized;
      rows = by_place (GoodRow p) t.rows v r silent_row good old.rows;
      number_places = noted.0;
      numbers_noted = noted.1;
    }
