-- What has a place in the tables: 32 consoles, 16 sessions, 8 payload numbers.
use Rattle.std.specs.Prelude.{ℕ, ◌<◌, Bool, if◌then◌else◌, Some, None, Option}
use Rattle.caster.specs.declared.delivery.Delivery.{Delivery}
use Rattle.plain_session.specs.declared.endorsement.Endorsement.{Endorsement}

-- the copy has a place
pub record FitsRoute (e : Endorsement) : Type 0 where
  pub from : e.sender < 32
  pub to : e.receiver < 32
  pub entered : e.session < 16
  pub listed : e.number < 8

-- a console's choice of a number in a session
pub record Choice : Type 0 where
  pub console : ℕ
  pub session : ℕ
  pub number : ℕ

-- the choice has a place
pub record FitsVote (console session number : ℕ) : Type 0 where
  pub known : console < 32
  pub entered : session < 16
  pub listed : number < 8

-- the receiver's choice of the number
abbrev pub receiving : Endorsement → Choice
receiving e = record { console = e.receiver; session = e.session; number = e.number }

-- what a console delivers by a choice
abbrev pub delivery_of : Choice → Delivery
delivery_of c = record { console = c.console; session = c.session; number = c.number }

abbrev pub delivery_if : (delivers : Bool) → Choice → Option Delivery
delivery_if delivers c = if delivers then Some (delivery_of c) else None
