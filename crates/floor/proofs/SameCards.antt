-- Cards of the same bytes are the same, since the places behind the bytes are zeros.
use Rattle.std.proofs.Common.{◌≡◌, length, sym, ap, ◌∙◌}
use Rattle.std.proofs.Props.{props}
use mathlib.Core.HLevel.{is_prop→PathP}
use Rattle.floor.specs.declared.card.Card.{Card}
use Rattle.floor.specs.Cards.{card_bytes}
use Rattle.floor.specs.Places.{IsCard, filled, filled-take}

pub same_bytes : (a b : Card) → card_bytes a ≡ card_bytes b → a ≡ b
same_bytes a b e =
    let of_a = filled-take a.len a.places a.whole in
    let of_b = filled-take b.len b.places b.whole in
    let places : a.places ≡ b.places = sym of_a.0 ∙ ap filled e ∙ of_b.0 in
    let len : a.len ≡ b.len = sym of_a.1 ∙ ap length e ∙ of_b.1 in
    λ i. record {
      places = places i;
      len = len i;
      whole = is_prop→PathP (λ j. IsCard (len j) (places j)) (λ j. Prim.hlevel props) a.whole b.whole i;
    }
