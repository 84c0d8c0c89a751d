-- What a caster means: what was cast and delivered, how far it has come, and what it promises. docs/casters.md explains the words.
use Rattle.std.specs.Prelude.{ℕ, Bool, false, cond, ◌&&◌, ◌||◌, List, [], ◌∷◌, is_some, Some, None, Option, Result, ◌==◌, nat_le}
use Rattle.sets.specs.Members.{has}
use Rattle.quorum.specs.declared.figures.Figures.{Figures}
use Rattle.floor.specs.Refusals.{Check, check, first_found, answer}
use Rattle.floor.specs.declared.refusal.Refusal.{Refusal}
use Rattle.floor.specs.declared.refusal.Refusal.TheVariants.{OutOfRange, WrongHonesty, AlreadyCast}
use Rattle.caster.specs.declared.delivery.Delivery.{Delivery}
use Rattle.caster.specs.declared.floor_figures.FloorFigures.{FloorFigures}

-- By console and session, the number that stands there, if any.
abbrev pub Numbers : Type 0
Numbers = ℕ → ℕ → Option ℕ

pub record Meaning : Type 0 where
  pub casts : Numbers
  pub deliveries : Numbers
  -- how many steps can still come
  pub steps : ℕ
  -- no copy is under way
  pub quiet : Bool
  pub floor : FloorFigures
  pub figures : Figures

-- What cast and step answer: a refusal, or the delivery that they added, if any.
abbrev pub Answered : Type 0
Answered = Result (Option Delivery) Refusal

-- The number stands there.
abbrev pub is : Option ℕ → ℕ → Bool
is None v = false
is (Some u) v = u == v

-- The number is put there, and the rest stays.
abbrev pub put : Numbers → (console session number : ℕ) → Numbers
put numbers console session number =
    λ c s. cond (c == console && s == session) (Some number) (numbers c s)

-- ---- refusals

abbrev pub cast_checks : Meaning → (console session number : ℕ) → List Check
cast_checks m console session number =
    check (nat_le m.floor.consoles console || (nat_le m.floor.sessions session || nat_le m.floor.capacity number)) OutOfRange
    ∷ check (has m.floor.byzantine.mask console) WrongHonesty
    ∷ check (is_some (m.casts console session)) AlreadyCast
    ∷ []

abbrev pub question_checks : FloorFigures → (console session : ℕ) → List Check
question_checks floor console session =
    check (nat_le floor.consoles console || nat_le floor.sessions session) OutOfRange
    ∷ check (has floor.byzantine.mask console) WrongHonesty
    ∷ []

-- ---- questions

abbrev pub cast_question : Meaning → (console session : ℕ) → Result (Option ℕ) Refusal
cast_question m console session = answer (first_found (question_checks m.floor console session)) (m.casts console session)

abbrev pub delivery_question : Meaning → (console session : ℕ) → Result (Option ℕ) Refusal
delivery_question m console session =
    answer (first_found (question_checks m.floor console session)) (m.deliveries console session)
