-- Accepted events and casts keep the invariant; a hand or a loss takes one step, and nothing else takes any.
use Rattle.std.proofs.Common.{◌≡◌, ℕ, ◌+◌, ◌-◌, ◌<◌, None, refl, arith}
use Rattle.floor.specs.Refusals.{first_found}
use Rattle.caster.specs.Meanings.{cast_checks}
use Rattle.plain_session.specs.Protocol.{received, handed, lost_copy, casting}
use Rattle.plain_session.specs.declared.endorsement.Endorsement.{Endorsement}
use Rattle.plain_session.specs.declared.session_table.SessionTable.{SessionTable}
use Rattle.plain_tables.specs.Tables.{session_of, with_session, cast_tables, losses}
use Rattle.plain_tables.specs.declared.event.PlainEvent.{PlainEvent}
use Rattle.plain_tables.specs.declared.event.PlainEvent.TheVariants.{Hand, Lose, Inject}
use Rattle.plain_tables.specs.declared.plan.Plan.{Plan}
use Rattle.plain_tables.specs.declared.tables.Tables.{Tables}
use Rattle.plain_model.specs.Invariant.{Good, GoodSession}
use Rattle.plain_model.specs.Steps.{event_checks, event_tables, meaning_of, session_steps, steps_left}
use Rattle.plain_model.proofs.Accepted.{Sent, Stray, Fresh, hand_accepted, lose_accepted, inject_accepted, cast_accepted}
use Rattle.plain_model.proofs.Casting.{casting_good}
use Rattle.plain_model.proofs.LostCopies.{lost_copy_good}
use Rattle.plain_model.proofs.OneSession.{session_good, changed_good, steps_change}
use Rattle.plain_model.proofs.Receiving.{received_good, handed_good}
use Rattle.plain_model.proofs.SessionSteps.{handed_falls, lost_falls, received_stays, casting_stays}

-- In session s, which now is t, so many steps were taken.
pub record Change (p : Plan) (x : Tables) (s : ℕ) (t : SessionTable) (taken : ℕ) : Type 0 where
  pub below : s < p.floor.sessions
  pub new : GoodSession p t
  pub falls : session_steps p (session_of x s) ≡ session_steps p t + taken

module _ (p : Plan) (x : Tables) (good : Good p x) where
  module _ (e : Endorsement) where
    -- What each event and each cast does to its session.
    pub hand_change :
        Sent p x e
        → Change p x e.session (handed p.setting (session_of x e.session) e.number e.sender e.receiver) 1
    hand_change is =
        let t = session_good p x good e.session is.numbers.session in
        record {
          below = is.numbers.session;
          new = handed_good p _ e.number e.sender e.receiver good.plan t is.numbers.number is.from is.to is.way;
          falls = handed_falls p _ e.number e.sender e.receiver good.plan t is.numbers.number is.to is.from is.way;
        }

    pub lose_change :
        Sent p x e → losses x e < p.floor.lost
        → Change p x e.session (lost_copy (session_of x e.session) e.number e.sender e.receiver) 1
    lose_change is few =
        let t = session_good p x good e.session is.numbers.session in
        record {
          below = is.numbers.session;
          new =
              lost_copy_good p _ e.number e.sender e.receiver good.plan t is.numbers.number is.from is.to
              is.way few;
          falls = lost_falls p _ e.number e.sender e.receiver good.plan t is.numbers.number is.to is.from is.way;
        }

    pub inject_change :
        Stray p e → Change p x e.session (received p.setting (session_of x e.session) e.number e.sender e.receiver) 0
    inject_change is =
        let t = session_good p x good e.session is.numbers.session in
        let stays =
        received_stays p _ e.number e.sender e.receiver good.plan t is.numbers.number is.to is.numbers.from
        is.from in
        record {
          below = is.numbers.session;
          new =
              received_good p _ e.number e.sender e.receiver good.plan t is.numbers.number is.numbers.from
              is.from is.to;
          falls = omega (arith, stays);
        }

  pub cast_change : (c s v : ℕ) → Fresh p x c s v → Change p x s (casting p.setting (session_of x s) v c) 0
  cast_change c s v is =
      record {
        below = is.session;
        new = casting_good p _ v c good.plan (session_good p x good s is.session) is.number is.console is.first;
        falls = omega (arith, casting_stays p (session_of x s) v c);
      }

  -- A change keeps the invariant.
  kept : (s : ℕ) (t : SessionTable) (taken left : ℕ) → Change p x s t taken → left ≡ x.left - taken
      → Good p (record { sessions = (with_session x s t).sessions; busy = (with_session x s t).busy; left = left })
  kept s t taken left change is = changed_good p x s t good change.below taken left change.new change.falls is

  -- So does every accepted event, and every accepted cast.
  pub event_good : (event : PlainEvent) → first_found (event_checks p x event) ≡ None → Good p (event_tables p x event)
  event_good (Hand e) none = kept _ _ 1 _ (hand_change e (hand_accepted p x e good.plan none)) refl
  event_good (Lose e) none =
      let is = lose_accepted p x e good.plan none in kept _ _ 1 _ (lose_change e is.0 is.1) refl
  event_good (Inject e) none = kept _ _ 0 _ (inject_change e (inject_accepted p x e good.plan none)) (omega arith)

  pub cast_good :
      (c s v : ℕ) → first_found (cast_checks (meaning_of p x) c s v) ≡ None → Good p (cast_tables p.setting x c s v)
  cast_good c s v none = kept _ _ 0 _ (cast_change c s v (cast_accepted p x c s v good.plan none)) (omega arith)

  -- A change takes as many steps off.
  pub change_steps :
      (s : ℕ) (t : SessionTable) (taken : ℕ) → Change p x s t taken → steps_left p x ≡ steps_left p (with_session x s t) + taken
  change_steps s t taken change = steps_change p x s t good change.below taken change.falls
