-- Alike cards have the same bytes, and so are the same.
use Rattle.std.proofs.Common.{◌≡◌, true, ap, rules}
use Rattle.floor.specs.Cards.{card_bytes}
use Rattle.floor.proofs.SameCards.{same_bytes}
use Rattle.floor.proofs.card.calls.CardPayload.alike.Goals as goal

pub returns-clause-same : goal.returns-clause-same
returns-clause-same c =
    let a = c.args.self.now in
    let b = c.args.other.now in
    let equal : (c.eq.result ≡ true → card_bytes a ≡ card_bytes b) × (card_bytes a ≡ card_bytes b → c.eq.result ≡ true) = search rules in
    (λ alike. same_bytes a b (equal.0 alike), λ same. equal.1 (ap card_bytes same))
