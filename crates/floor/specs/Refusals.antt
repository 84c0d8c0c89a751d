-- The numbers of the refusals. docs/model.md says when each is answered.
use Rattle.std.specs.Prelude.{◌≡◌, ℕ, ◌<◌, ◌≤◌, Bool, true, false, if◌then◌else◌, List, All, [], ◌∷◌, Some, None, Ok, Err, Option, Result}
use Rattle.floor.specs.declared.refusal.Refusal.{Refusal}
use Rattle.floor.specs.declared.refusal.Refusal.TheVariants.{OutOfRange, WrongHonesty, SessionTwice, ThresholdRule, TooFewPlaces, NotAPermutation, ForgedSignature, OtherFloor, ByzantineFull, SessionsFull, PayloadsFull, AlreadyCast, NoSuchCopy, LossesUsed, NothingNew, CastersMisfit, NothingWaiting, Disagreement}

abbrev pub number_of : Refusal → ℕ
number_of OutOfRange = 1
number_of WrongHonesty = 2
number_of SessionTwice = 3
number_of ThresholdRule = 4
number_of TooFewPlaces = 5
number_of NotAPermutation = 6
number_of ForgedSignature = 7
number_of OtherFloor = 9
number_of ByzantineFull = 21
number_of SessionsFull = 22
number_of PayloadsFull = 23
number_of AlreadyCast = 24
number_of NoSuchCopy = 25
number_of LossesUsed = 26
number_of NothingNew = 27
number_of CastersMisfit = 28
number_of NothingWaiting = 29
number_of Disagreement = 30

-- no two refusals have one number
abbrev pub NumberedApart : Type 0
NumberedApart = (a b : Refusal) → number_of a ≡ number_of b → a ≡ b

-- a check of a call, and what it refuses with where it finds something
pub record Check : Type 0 where
  pub found : Bool
  pub refusal : Refusal

abbrev pub check : Bool → Refusal → Check
check found refusal = record { found = found; refusal = refusal }

-- checks run one after the other, and the first that finds something answers
abbrev pub first_found : List Check → Option Refusal
first_found [] = None
first_found (c ∷ rest) = if c.found then Some c.refusal else first_found rest

-- the checks stand by rising number
abbrev pub Rising : List Check → Type 0
Rising [] = Unit {0}
Rising (c ∷ []) = Unit {0}
Rising (c ∷ d ∷ rest) = (number_of c.refusal < number_of d.refusal) × Rising (d ∷ rest)

-- no check that finds something has a lower number than the answer
abbrev pub Least : List Check → Option Refusal → Type 0
Least checks None = All (λ c. c.found ≡ false) checks
Least checks (Some answer) = All (λ c. c.found ≡ true → number_of answer ≤ number_of c.refusal) checks

-- of checks by rising number the lowest that finds something answers
abbrev pub LowestAnswers : Type 0
LowestAnswers = (checks : List Check) → Rising checks → Least checks (first_found checks)

-- what a call answers: what it is refused with, or else a value
abbrev pub answer : {A E : Type 0} → Option E → A → Result A E
answer None a = Ok a
answer (Some e) a = Err e

-- what a call leaves: a refused one leaves everything as it was
abbrev pub after : {S E : Type 0} → Option E → S → S → S
after None old new = new
after (Some e) old new = old
