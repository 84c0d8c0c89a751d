-- Which places of a table have copies under way.
use Rattle.std.specs.Prelude.{ℕ, Bool, if◌then◌else◌}
use Rattle.sets.specs.Members.{empty_set, with_console, without_console}
use Rattle.plain_session.specs.declared.agenda.Agenda.{Agenda}

abbrev pub nothing : Agenda
nothing = record { places = empty_set }

abbrev pub noted : Agenda → (place : ℕ) (busy : Bool) → Agenda
noted a place busy = record { places = (if busy then with_console a.places place else without_console a.places place) }
