-- One offered step more.
use Rattle.std.proofs.Common.{◌≡◌, ℕ, ◌+◌, Some, Option}
use mathlib.Core.Logic.{∥∥₁_map}
use Rattle.caster.specs.Draining.{Chain, further}
use Rattle.caster.specs.Meanings.{Answered}

module _ {S E : Type 0} (stepped : S → E → Answered → S → Type 0) (offered : S → Option E) where
  pub one_more :
      (s t u : S) (steps : ℕ) (event : E) (r : Answered) → ∥ Chain stepped offered s steps t ∥₁ → offered t ≡ Some event
      → stepped t event r u → ∥ Chain stepped offered s (steps + 1) u ∥₁
  one_more s t u steps event r chain is_offered step =
      ∥∥₁_map chain (λ (so_far : Chain stepped offered s steps t). further s t u steps event r so_far is_offered step)
