-- What a draft holds, what each call answers, and what it leaves. docs/model.md has the rules in words.
use Rattle.std.specs.Prelude.{ℕ, ◌-◌, ◌^◌, ◌<◌, ◌≤◌, Bool, ◌||◌, List, [], ◌∷◌, ◌++◌, length, Option, Result, count_ones, nat_le, nat_lt}
use Rattle.std.specs.Option.{ok_or}
use Rattle.std.specs.List.{slice_get}
use Rattle.quorum.specs.declared.counts.Counts.{Counts}
use Rattle.sets.specs.Members.{has, with_console, empty_set}
use Rattle.sets.specs.declared.console_set.ConsoleSet.{ConsoleSet}
use Rattle.floor.specs.declared.session.Session.{Session}
use Rattle.floor.specs.declared.refusal.Refusal.{Refusal}
use Rattle.floor.specs.declared.refusal.Refusal.TheVariants.{OutOfRange, WrongHonesty, SessionTwice, ByzantineFull, SessionsFull}
use Rattle.floor.specs.Refusals.{Check, check, first_found, answer, after}
use Rattle.floor.specs.Sessions.{Orderly, listed}

-- n consoles, at most t Byzantine, at most d copies of a message lost, at most so many payloads, the Byzantine consoles, the sessions
pub record DraftState : Type 0 where
  pub n : ℕ
  pub t : ℕ
  pub d : ℕ
  pub capacity : ℕ
  pub byzantine : ConsoleSet
  pub sessions : List Session

-- the state that these make up
abbrev pub holding : Counts → ℕ → ConsoleSet → List Session → DraftState
holding counts capacity byzantine sessions = record {
  n = counts.consoles;
  t = counts.byzantine;
  d = counts.lost;
  capacity = capacity;
  byzantine = byzantine;
  sessions = sessions;
}

-- a floor may list 1 to 8 payloads
pub record IsCapacity (capacity : ℕ) : Type 0 where
  pub some : 1 ≤ capacity
  pub few : capacity ≤ 8

-- the Byzantine consoles are of the floor, and no more than may be
pub record IsTolerated (n t : ℕ) (byzantine : ConsoleSet) : Type 0 where
  pub within : byzantine.mask < 2 ^ n
  pub tolerated : count_ones byzantine.mask ≤ t

-- what every draft keeps
pub record IsSound (s : DraftState) : Type 0 where
  pub capacity : IsCapacity s.capacity
  pub byzantine : IsTolerated s.n s.t s.byzantine
  pub sessions : Orderly s.n s.sessions
  pub room : length s.sessions ≤ 16

-- nothing marked and nothing entered
abbrev pub new_draft : ℕ → ℕ → ℕ → ℕ → DraftState
new_draft n t d v = record { n = n; t = t; d = d; capacity = v; byzantine = empty_set; sessions = [] }

abbrev pub outside : (low high x : ℕ) → Bool
outside low high x = nat_lt x low || nat_lt high x

abbrev pub plan_refusal : ℕ → ℕ → ℕ → ℕ → Option Refusal
plan_refusal n t d v = first_found (check (outside 1 32 n || (outside 0 n t || (outside 0 n d || outside 1 8 v))) OutOfRange ∷ [])

abbrev pub plan_answer : ℕ → ℕ → ℕ → ℕ → Result DraftState Refusal
plan_answer n t d v = answer (plan_refusal n t d v) (new_draft n t d v)

abbrev pub mark_checks : DraftState → ℕ → List Check
mark_checks s console =
    check (nat_le s.n console) OutOfRange
    ∷ check (has s.byzantine.mask console) WrongHonesty
    ∷ check (nat_le s.t (count_ones s.byzantine.mask)) ByzantineFull
    ∷ []

abbrev pub marked : DraftState → ℕ → DraftState
marked s console = record s { byzantine = with_console s.byzantine console }

abbrev pub mark_answer : DraftState → ℕ → Result (Unit {0}) Refusal
mark_answer s console = answer (first_found (mark_checks s console)) tt

abbrev pub after_mark : DraftState → ℕ → DraftState
after_mark s console = after (first_found (mark_checks s console)) s (marked s console)

abbrev pub enter_checks : DraftState → ℕ → ℕ → List Check
enter_checks s owner sequence =
    check (nat_le s.n owner || nat_lt 65535 sequence) OutOfRange
    ∷ check (listed (record { owner = owner; sequence = sequence }) s.sessions) SessionTwice
    ∷ check (nat_le 16 (length s.sessions)) SessionsFull
    ∷ []

-- the new session stands last
abbrev pub entered_session : DraftState → ℕ → ℕ → DraftState
entered_session s owner sequence = record s { sessions = s.sessions ++ (record { owner = owner; sequence = sequence } ∷ []) }

-- a session is answered by its number
abbrev pub enter_answer : DraftState → ℕ → ℕ → Result ℕ Refusal
enter_answer s owner sequence = answer (first_found (enter_checks s owner sequence)) (length s.sessions)

abbrev pub after_enter : DraftState → ℕ → ℕ → DraftState
after_enter s owner sequence = after (first_found (enter_checks s owner sequence)) s (entered_session s owner sequence)

abbrev pub session_answer : DraftState → ℕ → Result Session Refusal
session_answer s number = ok_or (slice_get s.sessions number) OutOfRange

abbrev pub honest_count : DraftState → ℕ
honest_count s = s.n - count_ones s.byzantine.mask
