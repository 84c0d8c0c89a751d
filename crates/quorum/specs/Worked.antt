-- The standard pair on some small floors of n consoles, t of them Byzantine at most, with d lost copies and h honest consoles.
use Rattle.std.specs.Prelude.{◌≡◌, ℕ, Bool, true, false, Some, None, Option}
use Rattle.quorum.specs.declared.figures.Figures.{Figures}
use Rattle.quorum.specs.declared.fit.Misfit.{Misfit}
use Rattle.quorum.specs.declared.fit.Misfit.TheVariants.{ReadySupport}
use Rattle.quorum.specs.declared.rules.Broken.{Broken}
use Rattle.quorum.specs.declared.rules.Rule.{Rule}
use Rattle.quorum.specs.declared.rules.Rule.TheVariants.{Attainable, Amplified}
use Rattle.quorum.specs.declared.thresholds.Thresholds.TheVariants.{Plain, Signed}
use Rattle.quorum.specs.Figures.{figures_at, figures_of}
use Rattle.quorum.specs.Fit.{misfit_of}
use Rattle.quorum.specs.Rules.{first_broken}
use Rattle.quorum.specs.Standard.{plain, standard_echo, standard_ready}

abbrev echo_broken : (n t d : ℕ) → Option Broken
echo_broken n t d = first_broken (Plain (standard_echo n t)) n t d

abbrev ready_broken : (n t d : ℕ) → Option Broken
ready_broken n t d = first_broken (Plain (standard_ready t d)) n t d

abbrev broken : (honest : ℕ) → Rule → Option Broken
broken honest rule = Some (record { honest = honest; rule = rule })

abbrev echo_figures : (n t d h : ℕ) → Option Figures
echo_figures n t d h = figures_at (Plain (standard_echo n t)) n t d h

abbrev ready_figures : (n t d h : ℕ) → Option Figures
ready_figures n t d h = figures_at (Plain (standard_ready t d)) n t d h

abbrev figures : (backing support reach : ℕ) → (voice : Bool) → Option Figures
figures backing support reach voice = Some (record { backing = backing; support = support; reach = reach; voice = voice })

abbrev misfit : (n t d h : ℕ) → Option Misfit
misfit n t d h = misfit_of (figures_of (Plain (standard_echo n t)) n t d h) (figures_of (Plain (standard_ready t d)) n t d h) d h

abbrev signed_misfit : (qd n t d h : ℕ) → Option Misfit
signed_misfit qd n t d h = misfit_of (figures_of (Plain (standard_echo n t)) n t d h) (figures_of (Signed qd) n t d h) d h

pub record WorkedFloors : Type 0 where
  pub of_4_1_0 : (standard_echo 4 1 ≡ plain 3 2 true) × (standard_ready 1 0 ≡ plain 3 2 false)
  pub of_4_1_0_at_3 : (echo_figures 4 1 0 3 ≡ figures 1 2 3 true) × (ready_figures 4 1 0 3 ≡ figures 1 2 3 false)
  pub of_4_1_0_at_4 : (echo_figures 4 1 0 4 ≡ figures 2 2 4 true) × (ready_figures 4 1 0 4 ≡ figures 2 2 4 false)
  pub of_8_1_1 : (standard_echo 8 1 ≡ plain 5 2 true) × (standard_ready 1 1 ≡ plain 4 2 false)
  pub of_8_1_1_at_7 : (echo_figures 8 1 1 7 ≡ figures 1 3 5 true) × (ready_figures 8 1 1 7 ≡ figures 1 2 6 false)
  -- too many Byzantine consoles, too many lost copies, too few consoles
  pub of_3_1_0 : echo_broken 3 1 0 ≡ broken 2 Attainable
  pub of_5_1_1 : echo_broken 5 1 1 ≡ broken 4 Attainable
  pub of_2_0_1 : echo_broken 2 0 1 ≡ broken 2 Attainable
  -- with neither Byzantine consoles nor losses a ready caster delivers at one endorsement, which amplifies nothing
  pub of_4_0_0 : (echo_broken 4 0 0 ≡ None) × (ready_broken 4 0 0 ≡ broken 4 Amplified)
  -- each caster keeps its rules, and the pair fits only where all consoles are honest
  pub of_8_1_2 : (echo_broken 8 1 2 ≡ None) × (ready_broken 8 1 2 ≡ None)
  pub of_8_1_2_at_7 :
      (echo_figures 8 1 2 7 ≡ figures 1 4 3 true) × (ready_figures 8 1 2 7 ≡ figures 1 4 3 false) × (misfit 8 1 2 7 ≡ Some ReadySupport)
  pub of_8_1_2_at_8 :
      (echo_figures 8 1 2 8 ≡ figures 2 3 4 true) × (ready_figures 8 1 2 8 ≡ figures 2 3 4 false) × (misfit 8 1 2 8 ≡ None)
  -- the standard echo caster with a signed ready caster
  pub of_8_1_1_at_7_signed_5 :
      (first_broken (Signed 5) 8 1 1 ≡ None) × (figures_at (Signed 5) 8 1 1 7 ≡ figures 4 5 6 true) × (signed_misfit 5 8 1 1 7 ≡ None)
  pub of_8_1_1_at_7_signed_6 : (first_broken (Signed 6) 8 1 1 ≡ None) × (signed_misfit 6 8 1 1 7 ≡ Some ReadySupport)
