-- Whether a reliable broadcast may stand on two casters, by their figures at h honest consoles with d lost copies.
use Rattle.std.specs.Prelude.{◌≡◌, ℕ, ◌-◌, ◌≤◌, true, None, Option, nat_le}
use Rattle.quorum.specs.declared.figures.Figures.{Figures}
use Rattle.quorum.specs.declared.fit.Misfit.{Misfit}
use Rattle.quorum.specs.declared.fit.Misfit.TheVariants.{EchoVoice, EchoSupport, ReadySupport}
use Rattle.quorum.specs.Rules.{unless}

-- The consoles that a start reaches support the echo caster, and those that it reaches support the ready caster.
pub record Fits (echo ready : Figures) (d h : ℕ) : Type 0 where
  pub echo_voice : echo.voice ≡ true
  pub echo_support : echo.support ≤ h - d
  pub ready_support : ready.support ≤ echo.reach

-- The first of these that fails.
abbrev pub misfit_of : (echo ready : Figures) (d h : ℕ) → Option Misfit
misfit_of echo ready d h =
    unless echo.voice EchoVoice
    (unless (nat_le echo.support (h - d)) EchoSupport
    (unless (nat_le ready.support echo.reach) ReadySupport
    None))
