-- Of checks by rising number the lowest that finds something answers.
use Rattle.std.proofs.Common.{◌≡◌, ◌≤◌, true, false, List, [], ◌∷◌, Some, None, Option, Ok, is_ok, All, ap, arith, refl}
use Rattle.std.proofs.lemmas.List.Elements.{All-nil, All-cons, All-weaker}
use Rattle.std.proofs.lemmas.Bool.{cond_both, both_ways, true≢false}
use Rattle.floor.specs.declared.refusal.Refusal.{Refusal}
use Rattle.floor.specs.Refusals.{Check, LowestAnswers, Least, Rising, first_found, number_of, answer}

-- a check has at least the number of a refusal
abbrev NotBelow : Refusal → Check → Type 0
NotBelow r c = number_of r ≤ number_of c.refusal

-- a check has it if it finds something
abbrev FoundNotBelow : Refusal → Check → Type 0
FoundNotBelow r c = c.found ≡ true → NotBelow r c

-- no later check has a lower number
later : (c : Check) (rest : List Check) → Rising (c ∷ rest) → All (NotBelow c.refusal) rest
later c [] r = All-nil (NotBelow c.refusal)
later c (d ∷ rest) r =
    All-cons (NotBelow c.refusal) d rest (omega (arith, r.0))
    (All-weaker (NotBelow d.refusal) (NotBelow c.refusal) (λ e h. omega (arith, r.0)) rest (later d rest r.1))

tail : (c : Check) (rest : List Check) → Rising (c ∷ rest) → Rising rest
tail c [] r = tt
tail c (d ∷ rest) r = r.1

-- a check that finds nothing changes no answer
skipped : (c : Check) (rest : List Check) (o : Option Refusal) → c.found ≡ false → Least rest o → Least (c ∷ rest) o
skipped c rest None e least = All-cons (λ d. d.found ≡ false) c rest e least
skipped c rest (Some x) e least = All-cons (FoundNotBelow x) c rest (λ found. absurd (both_ways c.found e found)) least

-- the first check finds something
answered : (c : Check) (rest : List Check) → Rising (c ∷ rest) → Least (c ∷ rest) (Some c.refusal)
answered c rest r =
    All-cons (FoundNotBelow c.refusal) c rest (λ _. omega arith)
    (All-weaker (NotBelow c.refusal) (FoundNotBelow c.refusal) (λ d h _. h) rest (later c rest r))

pub lowest_answers : LowestAnswers
lowest_answers [] r = All-nil (λ c. c.found ≡ false)
lowest_answers (c ∷ rest) r =
    cond_both c.found (Some c.refusal) (first_found rest) (Least (c ∷ rest))
    (λ _. answered c rest r)
    (λ e. skipped c rest (first_found rest) e (lowest_answers rest (tail c rest r)))

-- An accepted call is one in which no check found anything, and answers its value.
pub accepted : {A E : Type 0} (found : Option E) (value a : A) → Ok a ≡ answer found value → (found ≡ None) × (a ≡ value)
accepted None value a e = (refl, cc)
accepted (Some x) value a e = absurd (true≢false (ap is_ok e))
