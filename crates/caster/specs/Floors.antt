-- The floor that a caster serves, and its honest consoles.
use Rattle.std.specs.Prelude.{◌≡◌, ℕ, ◌≤◌, Bool, not, ◌&&◌, length, nat_lt}
use Rattle.sets.specs.Counting.{count}
use Rattle.sets.specs.Members.{has, first_consoles, difference_set}
use Rattle.sets.specs.declared.console_set.ConsoleSet.{ConsoleSet}
use Rattle.floor.specs.Drafts.{IsTolerated, DraftState}
use Rattle.caster.specs.declared.floor_figures.FloorFigures.{FloorFigures}

abbrev pub floor_of : DraftState → FloorFigures
floor_of s =
    record {
      consoles = s.n;
      byzantine = s.byzantine;
      sessions = length s.sessions;
      capacity = s.capacity;
      lost = s.d;
    }

-- a floor has at most 32 consoles, 16 sessions and 8 payload numbers
pub record InRange (floor : FloorFigures) : Type 0 where
  pub few_consoles : floor.consoles ≤ 32
  pub few_sessions : floor.sessions ≤ 16
  pub few_numbers : floor.capacity ≤ 8

-- the floor that a draft tells of, and what every draft keeps
pub record IsFloorOf (draft : DraftState) (floor : FloorFigures) : Type 0 where
  pub value : floor ≡ floor_of draft
  pub in_range : InRange floor
  pub tolerated : IsTolerated draft.n draft.t draft.byzantine

abbrev pub honest : FloorFigures → ℕ → Bool
honest floor console = nat_lt console floor.consoles && not (has floor.byzantine.mask console)

-- the honest consoles as a set
abbrev pub honest_consoles : FloorFigures → ConsoleSet
honest_consoles floor = difference_set (first_consoles floor.consoles) floor.byzantine

-- how many honest consoles satisfy a test
abbrev pub honestly : FloorFigures → (ℕ → Bool) → ℕ
honestly floor test = count floor.consoles (λ console. honest floor console && test console)
