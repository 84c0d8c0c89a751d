-- The sixteen places of a card.
use Rattle.std.specs.Prelude.{◌≡◌, ℕ, ◌-◌, ◌≤◌, List, ◌++◌, length, take, drop, replicate}
use Rattle.std.proofs.Common.{arith}
use Rattle.std.proofs.lemmas.List.{length-take-le, take-append-drop}

-- the bytes, and zeros behind them
abbrev pub filled : List ℕ → List ℕ
filled bytes = bytes ++ replicate (16 - length bytes) 0

-- 1 to 16 of the places are the card's, and the others are zero
pub record IsCard (len : ℕ) (places : List ℕ) : Type 0 where
  pub some : 1 ≤ len
  pub fits : len ≤ 16
  pub whole : length places ≡ 16
  pub zeros : drop len places ≡ replicate (16 - len) 0

-- the card's bytes give the places back, so cards of the same bytes are the same
pub filled-take : (len : ℕ) (places : List ℕ) → IsCard len places → (filled (take len places) ≡ places) × (length (take len places) ≡ len)
filled-take len places card =
    let long : length (take len places) ≡ len = length-take-le len places (omega (arith, card.fits, card.whole)) in
    (rw (long, ← card.zeros) (take-append-drop len places), long)
