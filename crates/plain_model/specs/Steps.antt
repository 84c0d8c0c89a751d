-- What the plain caster means, and what it answers and leaves. docs/casters.md has the rules in words.
use Rattle.std.specs.Prelude.{◌≡◌, ℕ, Bool, false, not, ◌&&◌, ◌||◌, List, [], ◌∷◌, ◌++◌, is_ok, None, Option, option_map, nat_le}
use Rattle.sets.specs.Counting.{sum, count}
use Rattle.sets.specs.Members.{has}
use Rattle.floor.specs.Refusals.{Check, check, first_found, answer, after}
use Rattle.floor.specs.declared.refusal.Refusal.TheVariants.{OutOfRange, WrongHonesty, NoSuchCopy, LossesUsed, NothingNew}
use Rattle.caster.specs.Meanings.{Meaning, Answered, cast_checks}
use Rattle.caster.specs.declared.delivery.Delivery.{Delivery}
use Rattle.caster.specs.declared.floor_figures.FloorFigures.{FloorFigures}
use Rattle.plain_session.specs.Sessions.{row_of, cast_by, delivered_by}
use Rattle.plain_session.specs.declared.endorsement.Endorsement.{Endorsement}
use Rattle.plain_session.specs.declared.row.Row.{Row}
use Rattle.plain_session.specs.declared.session_table.SessionTable.{SessionTable}
use Rattle.plain_tables.specs.Tables.{session_of, quiet, under_way, has_heard, losses, receive_tables, hand_tables, lose_tables, cast_tables, receive_delivery, hand_delivery, next_copy}
use Rattle.plain_tables.specs.declared.event.PlainEvent.{PlainEvent}
use Rattle.plain_tables.specs.declared.event.PlainEvent.TheVariants.{Hand, Lose, Inject}
use Rattle.plain_tables.specs.declared.plan.Plan.{Plan}
use Rattle.plain_tables.specs.declared.tables.Tables.{Tables}
use Rattle.plain_model.specs.Plans.{is_honest}
use Rattle.plain_model.specs.Views.{heard, lost}

-- ---- steps left

-- an honest sender's copy to an honest receiver that was neither handed nor lost, sent or not
abbrev pub still_open : Plan → Row → (sender receiver : ℕ) → Bool
still_open p r sender receiver =
    is_honest p sender && (is_honest p receiver && not (heard r sender receiver || lost r sender receiver))

abbrev pub row_steps : Plan → Row → ℕ
row_steps p r = sum p.floor.consoles (λ sender. count p.floor.consoles (λ receiver. still_open p r sender receiver))

abbrev pub session_steps : Plan → SessionTable → ℕ
session_steps p t = sum p.floor.capacity (λ number. row_steps p (row_of t number))

abbrev pub steps_left : Plan → Tables → ℕ
steps_left p x = sum p.floor.sessions (λ session. session_steps p (session_of x session))

-- ---- meaning

abbrev pub meaning_of : Plan → Tables → Meaning
meaning_of p x = record {
  casts = λ console session. cast_by (session_of x session) console;
  deliveries = λ console session. delivered_by (session_of x session) console;
  steps = steps_left p x;
  quiet = quiet x;
  floor = p.floor;
  figures = p.figures;
}

-- ---- events

abbrev pub outside : FloorFigures → Endorsement → Bool
outside floor e =
    nat_le floor.consoles e.sender
    || (nat_le floor.consoles e.receiver || (nat_le floor.sessions e.session || nat_le floor.capacity e.number))

abbrev pub byzantine : FloorFigures → ℕ → Bool
byzantine floor console = has floor.byzantine.mask console

-- a copy between honest consoles that is under way
abbrev pub sent_checks : Plan → Tables → Endorsement → List Check
sent_checks p x e =
    check (byzantine p.floor e.sender || byzantine p.floor e.receiver) WrongHonesty
    ∷ check (not (under_way x e)) NoSuchCopy
    ∷ []

-- such a copy that may be lost
abbrev pub loss_checks : Plan → Tables → Endorsement → List Check
loss_checks p x e = sent_checks p x e ++ (check (nat_le p.floor.lost (losses x e)) LossesUsed ∷ [])

-- an endorsement of a Byzantine console that is new to an honest one
abbrev pub injection_checks : Plan → Tables → Endorsement → List Check
injection_checks p x e =
    check (not (byzantine p.floor e.sender) || byzantine p.floor e.receiver) WrongHonesty
    ∷ check (has_heard x e) NothingNew
    ∷ []

abbrev pub event_checks : Plan → Tables → PlainEvent → List Check
event_checks p x (Hand e) = check (outside p.floor e) OutOfRange ∷ sent_checks p x e
event_checks p x (Lose e) = check (outside p.floor e) OutOfRange ∷ loss_checks p x e
event_checks p x (Inject e) = check (outside p.floor e) OutOfRange ∷ injection_checks p x e

-- what an accepted event leaves, and the delivery that it adds
abbrev pub event_tables : Plan → Tables → PlainEvent → Tables
event_tables p x (Hand e) = hand_tables p.setting x e
event_tables p x (Lose e) = lose_tables x e
event_tables p x (Inject e) = receive_tables p.setting x e

abbrev pub event_delivery : Plan → Tables → PlainEvent → Option Delivery
event_delivery p x (Hand e) = hand_delivery p.setting x e
event_delivery p x (Lose e) = None
event_delivery p x (Inject e) = receive_delivery p.setting x e

-- ---- calls

abbrev pub step_answer : Plan → Tables → PlainEvent → Answered
step_answer p x event = answer (first_found (event_checks p x event)) (event_delivery p x event)

abbrev pub after_step : Plan → Tables → PlainEvent → Tables
after_step p x event = after (first_found (event_checks p x event)) x (event_tables p x event)

-- a cast brings no delivery: it only sends
abbrev pub cast_answer : Plan → Tables → (console session number : ℕ) → Answered
cast_answer p x console session number =
    answer (first_found (cast_checks (meaning_of p x) console session number)) None

abbrev pub after_cast : Plan → Tables → (console session number : ℕ) → Tables
after_cast p x console session number =
    after (first_found (cast_checks (meaning_of p x) console session number)) x
    (cast_tables p.setting x console session number)

-- the next copy is offered to be handed
abbrev pub offer_of : Tables → Option PlainEvent
offer_of x = option_map Hand (next_copy x)

-- ---- the same of whatever holds a plan and tables

abbrev pub Casted : {S : Type 0} → (S → Plan) → (S → Tables) → S → ℕ → ℕ → ℕ → Answered → S → Type 0
Casted plan tables before c s v r after =
    (r ≡ cast_answer (plan before) (tables before) c s v)
    × (tables after ≡ after_cast (plan before) (tables before) c s v)
    × (plan after ≡ plan before)
    × (is_ok r ≡ false → after ≡ before)

abbrev pub Stepped : {S : Type 0} → (S → Plan) → (S → Tables) → S → PlainEvent → Answered → S → Type 0
Stepped plan tables before event r after =
    (r ≡ step_answer (plan before) (tables before) event)
    × (tables after ≡ after_step (plan before) (tables before) event)
    × (plan after ≡ plan before)
    × (is_ok r ≡ false → after ≡ before)
