-- Each accepted event and cast moves the caster's meaning as the laws say.
use Rattle.std.proofs.Common.{◌≡◌, ℕ, ◌<◌, List, length, get_or, Some, None, Option, refl, ap, ◌∙◌, arith}
use Rattle.floor.specs.Refusals.{first_found}
use Rattle.caster.specs.Laws.{Moves}
use Rattle.caster.specs.Meanings.{put, cast_checks}
use Rattle.plain_session.specs.Protocol.{lost_copy, casting}
use Rattle.plain_session.specs.Sessions.{cast_by, settle_table}
use Rattle.plain_session.specs.declared.endorsement.Endorsement.{Endorsement}
use Rattle.plain_tables.specs.Tables.{session_of, cast_tables}
use Rattle.plain_tables.specs.declared.event.PlainEvent.{PlainEvent}
use Rattle.plain_tables.specs.declared.event.PlainEvent.TheVariants.{Hand, Lose, Inject}
use Rattle.plain_tables.specs.declared.plan.Plan.{Plan}
use Rattle.plain_tables.specs.declared.tables.Tables.{Tables}
use Rattle.plain_model.specs.Invariant.{Good}
use Rattle.plain_model.specs.Steps.{event_checks, event_tables, event_delivery, meaning_of, steps_left}
use Rattle.plain_model.proofs.Accepted.{hand_accepted, lose_accepted, inject_accepted, cast_accepted}
use Rattle.plain_model.proofs.AfterWrites.{entry_after}
use Rattle.plain_model.proofs.EventsKeep.{hand_change, lose_change, inject_change, cast_change, change_steps}
use Rattle.plain_model.proofs.HonestSet.{honest_console}
use Rattle.plain_model.proofs.OneSession.{session_good}
use Rattle.plain_model.proofs.Recording.{casts_kept, none_added, put_there, received_kept, received_adds}
use Rattle.plain_model.proofs.SessionMoves.{casting_casts, casting_deliveries}

module _ (p : Plan) (x : Tables) (good : Good p x) where
  known : (c : ℕ) → c < p.floor.consoles → c < 32
  known c below = omega (arith, good.plan.few_consoles)

  -- Handing a copy over takes a step.
  pub hand_step :
      (e : Endorsement) → first_found (event_checks p x (Hand e)) ≡ None → steps_left p (event_tables p x (Hand e)) < steps_left p x
  hand_step e none = omega (arith, change_steps p x good _ _ 1 (hand_change p x good e (hand_accepted p x e good.plan none)))

  -- An event keeps the casts and adds the delivery it answers.
  pub event_moves :
      (event : PlainEvent) → first_found (event_checks p x event) ≡ None
      → Moves (meaning_of p x) (meaning_of p x).casts (event_delivery p x event) (meaning_of p (event_tables p x event))
  event_moves (Hand e) none =
      let is = hand_accepted p x e good.plan none in
      let sent = settle_table (session_of x e.session) e.number e.sender e.receiver in
      record {
        recorded = received_kept p x good e sent refl refl is.numbers.session (known _ is.numbers.to);
        adds = received_adds p x good e sent refl refl is.numbers.session (known _ is.numbers.to);
        falling = omega (arith, hand_step e none);
        same_floor = refl;
        same_figures = refl;
      }
  event_moves (Lose e) none =
      let is = lose_accepted p x e good.plan none in
      let left = lost_copy (session_of x e.session) e.number e.sender e.receiver in
      record {
        recorded = casts_kept x e.session left refl;
        adds = none_added x e.session left refl;
        falling = omega (arith, change_steps p x good _ _ 1 (lose_change p x good e is.0 is.1));
        same_floor = refl;
        same_figures = refl;
      }
  event_moves (Inject e) none =
      let is = inject_accepted p x e good.plan none in
      let old = session_of x e.session in
      record {
        recorded = received_kept p x good e old refl refl is.numbers.session (known _ is.numbers.to);
        adds = received_adds p x good e old refl refl is.numbers.session (known _ is.numbers.to);
        falling = omega (arith, change_steps p x good _ _ 0 (inject_change p x good e is));
        same_floor = refl;
        same_figures = refl;
      }

  -- A cast puts its number and adds no delivery.
  pub cast_moves :
      (c s v : ℕ) → first_found (cast_checks (meaning_of p x) c s v) ≡ None
      → Moves (meaning_of p x) (put (meaning_of p x).casts c s v) None (meaning_of p (cast_tables p.setting x c s v))
  cast_moves c s v none =
      let is = cast_accepted p x c s v good.plan none in
      let old = session_of x s in
      let new = casting p.setting old v c in
      let room : c < length old.casts =
      omega (
        arith,
        honest_console p c good.plan is.console,
        (session_good p x good s is.session).steady.table.cast_places,
      ) in
      record {
        recorded =
            put_there x s new p good is.session (λ k t. cast_by t k) c v
            (λ k. ap (λ (l : List (Option ℕ)). get_or l k None) (casting_casts p.setting old v c)
            ∙ entry_after old.casts c k (Some v) None room);
        adds = none_added x s new (casting_deliveries p.setting old v c);
        falling = omega (arith, change_steps p x good _ _ 0 (cast_change p x good c s v is));
        same_floor = refl;
        same_figures = refl;
      }
