-- Sessions in order of entry.
use Rattle.std.specs.Prelude.{◌≢◌, ℕ, ◌<◌, Bool, ◌&&◌, List, ◌==◌, All, AllPairs}
use Rattle.std.specs.List.{list_any}
use Rattle.floor.specs.declared.session.Session.{Session}

-- two sessions are the same if owner and sequence number both are
abbrev pub same_session : Session → Session → Bool
same_session a b = a.owner == b.owner && a.sequence == b.sequence

-- the session is among those entered
abbrev pub listed : Session → List Session → Bool
listed s sessions = list_any (λ x. same_session x s) sessions

-- no session is entered twice
abbrev pub Distinct : List Session → Type 0
Distinct sessions = AllPairs (λ x y. x ≢ y) sessions

-- the sessions of a floor of n consoles: each is owned by one of them, and no two are the same
pub record Orderly (n : ℕ) (sessions : List Session) : Type 0 where
  pub owned : All (λ s. s.owner < n) sessions
  pub distinct : Distinct sessions
