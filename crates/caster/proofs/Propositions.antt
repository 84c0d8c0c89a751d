-- What the laws say of one state or one call can be had in one way only. So it follows also from an invariant that a type hides.
use Rattle.std.proofs.Common.{◌≡◌, ℕ, is_some, Some, None, Option, unwrap_or, sym, refl, ap}
use mathlib.Core.Bool.{Bool-set}
use mathlib.Core.Logic.{∥∥₁_elim}
use mathlib.Core.HLevel.{×_prop, Π_prop, hedberg}
use native.Mathlib.Bridge.{le_prop}
use native.Mathlib.Decide.{ℕ_discrete}
use native.Mathlib.Nat.{ℕ_set}
use Rattle.std.proofs.lemmas.Bool.{true≢false}
use Rattle.caster.specs.Floors.{InRange}
use Rattle.caster.specs.Laws.{Sound, Placed, Adds, Moves}
use Rattle.caster.specs.Meanings.{Meaning, Numbers}
use Rattle.caster.specs.declared.delivery.Delivery.{Delivery}
use Rattle.caster.specs.declared.floor_figures.FloorFigures.{FloorFigures}

decide_some : (u v : ℕ) → Dec (u ≡ v) → Dec (Some u ≡ Some v)
decide_some u v (yes e) = yes (ap Some e)
decide_some u v (no n) = no (λ e. n (ap (λ o. unwrap_or o u) e))

number_discrete : Discrete (Option ℕ)
number_discrete None None = yes refl
number_discrete None (Some v) = no (λ e. true≢false (sym (ap is_some e)))
number_discrete (Some u) None = no (λ e. true≢false (ap is_some e))
number_discrete (Some u) (Some v) = decide_some u v (ℕ_discrete u v)

-- Two numbers, or none, are equal in at most one way.
pub number_set : IsSet (Option ℕ)
number_set = hedberg number_discrete

pub adds_prop : (before : Numbers) (added : Option Delivery) (after : Numbers) → IsProp (Adds before added after)
adds_prop before None after = Π_prop (λ c. Π_prop (λ s. number_set _ _))
adds_prop before (Some new) after = ×_prop (number_set _ _) (Π_prop (λ c. Π_prop (λ s. number_set _ _)))

placed_prop : (m : Meaning) (c s v : ℕ) → IsProp (Placed m c s v)
placed_prop m c s v a b i =
    record {
      console = Bool-set _ _ a.console b.console i;
      session = le_prop a.session b.session i;
      number = le_prop a.number b.number i;
    }

in_range_prop : (floor : FloorFigures) → IsProp (InRange floor)
in_range_prop floor a b i =
    record {
      few_consoles = le_prop a.few_consoles b.few_consoles i;
      few_sessions = le_prop a.few_sessions b.few_sessions i;
      few_numbers = le_prop a.few_numbers b.few_numbers i;
    }

pub sound_prop : (m : Meaning) → IsProp (Sound m)
sound_prop m a b i =
    record {
      in_range = in_range_prop m.floor a.in_range b.in_range i;
      cast_placed = λ c s v e. placed_prop m c s v (a.cast_placed c s v e) (b.cast_placed c s v e) i;
      delivery_placed = λ c s v e. placed_prop m c s v (a.delivery_placed c s v e) (b.delivery_placed c s v e) i;
      few_steps = le_prop a.few_steps b.few_steps i;
      positive = (
        le_prop a.positive.0 b.positive.0 i,
        le_prop a.positive.1 b.positive.1 i,
        le_prop a.positive.2 b.positive.2 i,
      );
      backed = λ c s v e. le_prop (a.backed c s v e) (b.backed c s v e) i;
      voiced = λ loud b' c s u v d e. ℕ_set _ _ (a.voiced loud b' c s u v d e) (b.voiced loud b' c s u v d e) i;
      supported = λ quiet s v e only. le_prop (a.supported quiet s v e only) (b.supported quiet s v e only) i;
      spread = λ quiet c s v e only. le_prop (a.spread quiet c s v e only) (b.spread quiet c s v e only) i;
    }

-- What a call does to the meaning, from an invariant that is hidden.
pub moves_from :
    {A : Type 0} (before : Meaning) (casts : Numbers) (added : Option Delivery) (after : Meaning) → ∥ A ∥₁
    → after.floor ≡ before.floor → after.figures ≡ before.figures → (A → Moves before casts added after)
    → Moves before casts added after
moves_from before casts added after hidden floor figures moves =
    record {
      recorded = λ c s. ∥∥₁_elim hidden (number_set _ _) (λ a. (moves a).recorded c s);
      adds = ∥∥₁_elim hidden (adds_prop _ added _) (λ a. (moves a).adds);
      falling = ∥∥₁_elim hidden le_prop (λ a. (moves a).falling);
      same_floor = floor;
      same_figures = figures;
    }
