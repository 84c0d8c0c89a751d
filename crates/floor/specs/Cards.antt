-- What a card holds, when one is refused, and when two are alike.
use Rattle.std.specs.Prelude.{ℕ, Bool, ◌||◌, List, [], ◌∷◌, length, take, Option, Result, nat_lt}
use Rattle.std.specs.Result.{result_map_both}
use Rattle.std.proofs.lemmas.Slice.Eq.{bytes_eq-Decides}
use Rattle.std.specs.Str.{bytes_eq}
use Rattle.floor.specs.declared.card.Card.{Card}
use Rattle.floor.specs.declared.card.CardPlan.{CardPlan}
use Rattle.floor.specs.declared.refusal.Refusal.{Refusal}
use Rattle.floor.specs.declared.refusal.Refusal.TheVariants.{OutOfRange}
use Rattle.floor.specs.Payloads.{Equivalence, by_key}
use Rattle.floor.specs.Refusals.{check, first_found}

abbrev pub card_bytes : Card → List ℕ
card_bytes c = take c.len c.places

abbrev pub card_refusal : List ℕ → Option Refusal
card_refusal bytes = first_found (check (nat_lt (length bytes) 1 || nat_lt 16 (length bytes)) OutOfRange ∷ [])

-- a plan by the bytes of its card
abbrev pub card_planned : Result CardPlan Refusal → Result (List ℕ) Refusal
card_planned = result_map_both (λ plan. card_bytes plan.card) (λ refusal. refusal)

abbrev pub same_card : Card → Card → Bool
same_card a b = bytes_eq (card_bytes a) (card_bytes b)

pub same_card_equivalence : Equivalence same_card
same_card_equivalence = by_key same_card card_bytes (λ a b. bytes_eq-Decides (card_bytes a) (card_bytes b))
