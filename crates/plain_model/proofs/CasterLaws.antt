-- The plain caster keeps the laws of casters.
use Rattle.std.proofs.Common.{◌≡◌, ℕ, ◌<◌, true, is_ok, Some, None, Ok, Option, sym, refl, ap, ◌∙◌, subst}
use Rattle.std.specs.Result.{result_err}
use mathlib.Core.Bool.{Bool-set}
use mathlib.Core.HLevel.{×_prop}
use mathlib.Core.Logic.{∥∥₁_elim}
use native.Mathlib.Bridge.{le_prop}
use Rattle.floor.specs.Refusals.{first_found, answer, after}
use Rattle.floor.specs.declared.refusal.Refusal.{Refusal}
use Rattle.caster.proofs.Propositions.{sound_prop, moves_from}
use Rattle.caster.specs.Laws.{Laws, Moves, There}
use Rattle.caster.specs.Meanings.{Numbers, Meaning, Answered, put}
use Rattle.caster.specs.declared.delivery.Delivery.{Delivery}
use Rattle.plain_tables.specs.declared.event.PlainEvent.{PlainEvent}
use Rattle.plain_tables.specs.declared.event.PlainEvent.TheVariants.{Hand, Lose, Inject}
use Rattle.plain_tables.specs.declared.plan.Plan.{Plan}
use Rattle.plain_tables.specs.declared.tables.Tables.{Tables}
use Rattle.plain_model.specs.Invariant.{Good}
use Rattle.plain_model.specs.Offers.{Offers}
use Rattle.plain_model.specs.Steps.{Casted, Stepped, meaning_of, steps_left, offer_of, event_checks, event_tables, event_delivery}
use Rattle.plain_model.proofs.Moving.{event_moves, cast_moves, hand_step}
use Rattle.floor.proofs.Checks.{accepted}
use Rattle.plain_model.proofs.NextCopies.{offers, offering, way_sent, sent_accepted}
use Rattle.plain_model.proofs.Soundness.{plain_sound}

-- ---- answers

-- An answer tells what a check found.
refusal_told : {A E : Type 0} (found : Option E) (value : A) → result_err (answer found value) ≡ found
refusal_told None value = refl
refusal_told (Some e) value = refl

-- ---- the laws

module _ {S : Type 0} (plan : S → Plan) (tables : S → Tables) (good : (s : S) → ∥ Good (plan s) (tables s) ∥₁) where
  abbrev meaning : S → Meaning
  meaning s = meaning_of (plan s) (tables s)

  -- What a caster means is what its plan and its tables mean.
  same_meaning : (s : S) (p : Plan) (x : Tables) → plan s ≡ p → tables s ≡ x → meaning_of p x ≡ meaning s
  same_meaning s p x same_plan same_tables = sym (λ i. meaning_of (same_plan i) (same_tables i))

  -- An accepted call moves what the caster means as its new tables do.
  call_moves :
      (before next : S) (casts : Numbers) (found : Option Refusal) (delivery added : Option Delivery) (new : Tables)
      → Ok added ≡ answer found delivery → tables next ≡ after found (tables before) new → plan next ≡ plan before
      → (found ≡ None → Good (plan before) (tables before) → Moves (meaning before) casts delivery (meaning_of (plan before) new))
      → Moves (meaning before) casts added (meaning next)
  call_moves before next casts found delivery added new answered kept same moves =
      let told = accepted found delivery added answered in
      let left = kept ∙ ap (λ f. after f (tables before) new) told.0 in
      subst (λ o. Moves (meaning before) casts o (meaning next)) (sym told.1)
      (subst (Moves (meaning before) casts delivery) (same_meaning next (plan before) new same left)
      (moves_from (meaning before) casts delivery (meaning_of (plan before) new) (good before) refl refl (moves told.0)))

  -- So does an accepted event,
  step_moves :
      (before next : S) (event : PlainEvent) (added : Option Delivery) → Stepped plan tables before event (Ok added) next
      → Moves (meaning before) (meaning before).casts added (meaning next)
  step_moves before next event added rel =
      call_moves before next (meaning before).casts _ _ added _ rel.0 rel.1 rel.2
      (λ none g. event_moves (plan before) (tables before) g event none)

  -- and an accepted cast, which delivers nothing.
  cast_records :
      (before next : S) (c s v : ℕ) (added : Option Delivery) → Casted plan tables before c s v (Ok added) next
      → Moves (meaning before) (put (meaning before).casts c s v) added (meaning next) × There c s added
  cast_records before next c s v added rel = (
    call_moves before next (put (meaning before).casts c s v) _ None added _ rel.0 rel.1 rel.2
        (λ none g. cast_moves (plan before) (tables before) g c s v none),
    subst (There c s) (sym (accepted _ None added rel.0).1) tt,
  )

  -- What is offered is a hand that no check turns away.
  offer_passes :
      (p : Plan) (x : Tables) (event : PlainEvent) → Good p x → Offers x (Some event)
      → (first_found (event_checks p x event) ≡ None) × (steps_left p (event_tables p x event) < steps_left p x)
  offer_passes p x (Hand e) g next =
      let passes = sent_accepted p x g e (way_sent p x g e next.0) in (passes, hand_step p x g e passes)
  offer_passes p x (Lose e) g next = absurd next
  offer_passes p x (Inject e) g next = absurd next

  -- So an offered event is accepted and takes a step.
  offer_takes :
      (before next : S) (event : PlainEvent) (r : Answered) → offer_of (tables before) ≡ Some event
      → Stepped plan tables before event r next → (is_ok r ≡ true) × ((meaning next).steps < (meaning before).steps)
  offer_takes before next event r offered rel =
      let p = plan before in let x = tables before in
      ∥∥₁_elim (good before) (×_prop (Bool-set _ _) le_prop)
      (λ g.
      let passes = offer_passes p x event g (subst (Offers x) offered (offers p x g)) in
      let left = rel.1 ∙ ap (λ found. after found x (event_tables p x event)) passes.0 in (
        ap is_ok (rel.0 ∙ ap (λ found. answer found (event_delivery p x event)) passes.0),
        subst (λ m. m.steps < (meaning before).steps) (same_meaning next p (event_tables p x event) rel.2 left) passes.1,
      ))

  -- Whatever holds a plan and tables that keep the invariant is a caster.
  pub plain_laws : Laws meaning (Casted plan tables) (Stepped plan tables) (λ s. offer_of (tables s))
  plain_laws =
      record {
        cast_kept = λ before next c s v e rel. rel.3 refl;
        step_kept = λ before next event e rel. rel.3 refl;
        cast_refused = λ before next c s v r rel. ap result_err rel.0 ∙ refusal_told _ None;
        cast_recorded = cast_records;
        step_recorded = step_moves;
        offer_taken = offer_takes;
        offering = λ s. ∥∥₁_elim (good s) (Bool-set _ _) (offering (plan s) (tables s));
        sound = λ s. ∥∥₁_elim (good s) (sound_prop _) (plain_sound (plan s) (tables s));
      }
