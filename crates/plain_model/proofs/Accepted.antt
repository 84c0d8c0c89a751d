-- What is known of an event or a cast that no check turns away.
use Rattle.std.proofs.Common.{◌≡◌, ℕ, ◌<◌, true, false, not, ◌||◌, List, None, ap, ◌∙◌, subst, arith}
use Rattle.std.proofs.lemmas.Bool.{or_parts, leb-false, not-false}
use Rattle.std.proofs.lemmas.List.Elements.{recursion_from_All}
use Rattle.std.specs.List.{AllByRecursion}
use Rattle.floor.proofs.Checks.{lowest_answers}
use Rattle.floor.specs.Refusals.{Check, Rising, Least, first_found}
use Rattle.caster.specs.Meanings.{cast_checks}
use Rattle.plain_session.specs.Sessions.{cast_by}
use Rattle.plain_session.specs.declared.endorsement.Endorsement.{Endorsement}
use Rattle.plain_tables.specs.Tables.{session_of, under_way, losses}
use Rattle.plain_tables.specs.declared.event.PlainEvent.{PlainEvent}
use Rattle.plain_tables.specs.declared.event.PlainEvent.TheVariants.{Hand, Lose, Inject}
use Rattle.plain_tables.specs.declared.plan.Plan.{Plan}
use Rattle.plain_tables.specs.declared.tables.Tables.{Tables}
use Rattle.plain_model.specs.Plans.{SoundPlan, is_honest}
use Rattle.plain_model.specs.Steps.{event_checks, outside, byzantine, meaning_of}
use Rattle.plain_model.proofs.Entries.{no_entry}
use Rattle.plain_model.proofs.HonestSet.{honest_or_byzantine}

-- The checks stand by rising number.
pub event_rising : (p : Plan) (x : Tables) (event : PlainEvent) → Rising (event_checks p x event)
event_rising p x (Hand e) = (omega arith, (omega arith, tt))
event_rising p x (Lose e) = (omega arith, (omega arith, (omega arith, tt)))
event_rising p x (Inject e) = (omega arith, (omega arith, tt))

pub cast_rising : (p : Plan) (x : Tables) (c s v : ℕ) → Rising (cast_checks (meaning_of p x) c s v)
cast_rising p x c s v = (omega arith, (omega arith, tt))

-- Where nothing is found, each check finds nothing.
all_passed : (checks : List Check) → Rising checks → first_found checks ≡ None → AllByRecursion (λ c. c.found ≡ false) checks
all_passed checks rising none =
    recursion_from_All (λ c. c.found ≡ false) checks (subst (Least checks) none (lowest_answers checks rising))

-- The numbers of an event are in range.
pub record Inside (p : Plan) (e : Endorsement) : Type 0 where
  pub from : e.sender < p.floor.consoles
  pub to : e.receiver < p.floor.consoles
  pub session : e.session < p.floor.sessions
  pub number : e.number < p.floor.capacity

inside : (p : Plan) (e : Endorsement) → outside p.floor e ≡ false → Inside p e
inside p e passed =
    let sender = or_parts _ _ passed in
    let receiver = or_parts _ _ sender.1 in
    let session = or_parts _ _ receiver.1 in
    record {
      from = leb-false _ _ sender.0;
      to = leb-false _ _ receiver.0;
      session = leb-false _ _ session.0;
      number = leb-false _ _ session.1;
    }

-- A copy that may be handed over or lost: one between honest consoles that is under way.
pub record Sent (p : Plan) (x : Tables) (e : Endorsement) : Type 0 where
  pub numbers : Inside p e
  pub from : is_honest p e.sender ≡ true
  pub to : is_honest p e.receiver ≡ true
  pub way : under_way x e ≡ true

-- An endorsement that may be injected: one of a Byzantine console to an honest one.
pub record Stray (p : Plan) (e : Endorsement) : Type 0 where
  pub numbers : Inside p e
  pub from : is_honest p e.sender ≡ false
  pub to : is_honest p e.receiver ≡ true

module _ (p : Plan) (x : Tables) (e : Endorsement) (sound : SoundPlan p) where
  sent : outside p.floor e ≡ false → (byzantine p.floor e.sender || byzantine p.floor e.receiver) ≡ false
      → not (under_way x e) ≡ false → Sent p x e
  sent range honesty way =
      let within = inside p e range in let both = or_parts _ _ honesty in
      record {
        numbers = within;
        from = honest_or_byzantine p e.sender sound within.from ∙ ap not both.0;
        to = honest_or_byzantine p e.receiver sound within.to ∙ ap not both.1;
        way = not-false _ way;
      }

  -- What no check turns away is so.
  pub hand_accepted : first_found (event_checks p x (Hand e)) ≡ None → Sent p x e
  hand_accepted none =
      let passed = all_passed (event_checks p x (Hand e)) (event_rising p x (Hand e)) none in
      sent passed.0 passed.1.0 passed.1.1.0

  pub lose_accepted : first_found (event_checks p x (Lose e)) ≡ None → Sent p x e × (losses x e < p.floor.lost)
  lose_accepted none =
      let passed = all_passed (event_checks p x (Lose e)) (event_rising p x (Lose e)) none in
      (sent passed.0 passed.1.0 passed.1.1.0, leb-false _ _ passed.1.1.1.0)

  pub inject_accepted : first_found (event_checks p x (Inject e)) ≡ None → Stray p e
  inject_accepted none =
      let passed = all_passed (event_checks p x (Inject e)) (event_rising p x (Inject e)) none in
      let within = inside p e passed.0 in let both = or_parts _ _ passed.1.0 in
      record {
        numbers = within;
        from = honest_or_byzantine p e.sender sound within.from ∙ ap not (not-false _ both.0);
        to = honest_or_byzantine p e.receiver sound within.to ∙ ap not both.1;
      }

-- A cast that is accepted is an honest console's, in range, and its first there.
pub record Fresh (p : Plan) (x : Tables) (c s v : ℕ) : Type 0 where
  pub console : is_honest p c ≡ true
  pub session : s < p.floor.sessions
  pub number : v < p.floor.capacity
  pub first : cast_by (session_of x s) c ≡ None

pub cast_accepted :
    (p : Plan) (x : Tables) (c s v : ℕ) → SoundPlan p → first_found (cast_checks (meaning_of p x) c s v) ≡ None → Fresh p x c s v
cast_accepted p x c s v sound none =
    let passed = all_passed (cast_checks (meaning_of p x) c s v) (cast_rising p x c s v) none in
    let console = or_parts _ _ passed.0 in let rest = or_parts _ _ console.1 in
    record {
      console = honest_or_byzantine p c sound (leb-false _ _ console.0) ∙ ap not passed.1.0;
      session = leb-false _ _ rest.0;
      number = leb-false _ _ rest.1;
      first = no_entry _ passed.1.1.0;
    }
