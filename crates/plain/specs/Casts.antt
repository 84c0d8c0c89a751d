-- Casts that are looked up in the tables.
use Rattle.std.specs.Prelude.{ℕ}
use Rattle.plain_session.specs.Places.{Choice}

-- a cast by its numbers
abbrev pub choice : (console session number : ℕ) → Choice
choice console session number = record { console = console; session = session; number = number }
