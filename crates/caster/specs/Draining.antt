-- Offered steps, one after another.
use Rattle.std.specs.Prelude.{◌≡◌, ℕ, ◌+◌, Some, Option}
use Rattle.caster.specs.Meanings.{Answered}

-- So many offered steps lead from one state to another.
pub data Chain {S E : Type 0} (stepped : S → E → Answered → S → Type 0) (offered : S → Option E) : S → ℕ → S → Type 0 where
  none : (s : S) → Chain stepped offered s 0 s
  further :
      (s t u : S) (steps : ℕ) (event : E) (r : Answered) → Chain stepped offered s steps t → offered t ≡ Some event → stepped t event r u
      → Chain stepped offered s (steps + 1) u
