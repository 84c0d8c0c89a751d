-- What follows from an invariant that a type hides: it is kept, the steps that are kept are the steps left, and the offer is the next copy.
use Rattle.std.proofs.Common.{◌≡◌, ℕ, Some, None, Option, sym, subst}
use mathlib.Core.Bool.{Bool-set}
use mathlib.Core.HLevel.{×_prop, Π_prop, ⊥_prop}
use mathlib.Core.Logic.{∥∥₁_elim, ∥∥₁_map}
use native.Mathlib.Nat.{ℕ_set}
use Rattle.floor.specs.Refusals.{first_found}
use Rattle.caster.specs.Meanings.{cast_checks}
use Rattle.plain_tables.specs.Tables.{cast_tables}
use Rattle.plain_tables.specs.declared.event.PlainEvent.{PlainEvent}
use Rattle.plain_tables.specs.declared.event.PlainEvent.TheVariants.{Hand, Lose, Inject}
use Rattle.plain_tables.specs.declared.plan.Plan.{Plan}
use Rattle.plain_tables.specs.declared.tables.Tables.{Tables}
use Rattle.plain_model.specs.Invariant.{Good}
use Rattle.plain_model.specs.Offers.{Offers}
use Rattle.plain_model.specs.Steps.{event_checks, event_tables, meaning_of, offer_of, steps_left}
use Rattle.plain_model.proofs.EventsKeep.{event_good, cast_good}
use Rattle.plain_model.proofs.NextCopies.{offers}

module _ (p : Plan) (x : Tables) (hidden : ∥ Good p x ∥₁) where
  pub event_keeps :
      (next : Tables) (event : PlainEvent) → first_found (event_checks p x event) ≡ None → next ≡ event_tables p x event
      → ∥ Good p next ∥₁
  event_keeps next event none left = ∥∥₁_map hidden (λ good. subst (Good p) (sym left) (event_good p x good event none))

  pub cast_keeps :
      (next : Tables) (c s v : ℕ) → first_found (cast_checks (meaning_of p x) c s v) ≡ None → next ≡ cast_tables p.setting x c s v
      → ∥ Good p next ∥₁
  cast_keeps next c s v none left = ∥∥₁_map hidden (λ good. subst (Good p) (sym left) (cast_good p x good c s v none))

  pub kept_count : x.left ≡ steps_left p x
  kept_count = ∥∥₁_elim hidden (ℕ_set _ _) (λ good. good.counted)

-- An offer says what it says in one way only.
offers_prop : (x : Tables) (o : Option PlainEvent) → IsProp (Offers x o)
offers_prop x None = Π_prop (λ e. Bool-set _ _)
offers_prop x (Some (Hand e)) = ×_prop (Bool-set _ _) (Π_prop (λ other. Π_prop (λ before. Bool-set _ _)))
offers_prop x (Some (Lose e)) = ⊥_prop
offers_prop x (Some (Inject e)) = ⊥_prop

pub offered : (p : Plan) (x : Tables) → ∥ Good p x ∥₁ → (o : Option PlainEvent) → o ≡ offer_of x → Offers x o
offered p x hidden o is = subst (Offers x) (sym is) (∥∥₁_elim hidden (offers_prop x (offer_of x)) (offers p x))
