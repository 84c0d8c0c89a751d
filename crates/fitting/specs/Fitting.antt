-- What the standard pair of casters bears on a floor, and why it may not open. docs/model.md has the rules in words.
use Rattle.std.specs.Prelude.{◌≡◌, ℕ, ◌-◌, ◌||◌, [], ◌∷◌, Some, None, Ok, Err, Option, Result, nat_lt}
use Rattle.std.specs.Option.{option_map}
use Rattle.quorum.specs.declared.figures.Figures.{Figures}
use Rattle.quorum.specs.declared.rules.Broken.{Broken}
use Rattle.quorum.specs.declared.thresholds.Thresholds.{Thresholds}
use Rattle.quorum.specs.declared.thresholds.Thresholds.TheVariants.{Plain}
use Rattle.quorum.specs.Figures.{bears, figures_of}
use Rattle.quorum.specs.Fit.{Fits, misfit_of}
use Rattle.quorum.specs.Rules.{Borne}
use Rattle.quorum.specs.Standard.{standard_echo, standard_ready}
use Rattle.floor.specs.declared.refusal.Refusal.{Refusal}
use Rattle.floor.specs.declared.refusal.Refusal.TheVariants.{OutOfRange, ThresholdRule, CastersMisfit}
use Rattle.floor.specs.Refusals.{check, first_found, answer}
use Rattle.fitting.specs.declared.obstacle.Obstacle.{Obstacle}
use Rattle.fitting.specs.declared.obstacle.Obstacle.TheVariants.{Echo, Ready, Pair}
use Rattle.fitting.specs.declared.standard.CasterFit.{CasterFit}
use Rattle.fitting.specs.declared.standard.StandardFit.{StandardFit}

abbrev pub refusal_of : Obstacle → Refusal
refusal_of (Echo broken) = ThresholdRule
refusal_of (Ready broken) = ThresholdRule
refusal_of (Pair misfit) = CastersMisfit

-- a caster has figures if it breaks no rule
abbrev pub caster_fit : Thresholds → (n t d h : ℕ) → CasterFit
caster_fit q n t d h = record { thresholds = q; figures = bears q n t d h }

-- the echo caster is made first, then the ready caster, and then the two are held against each other
abbrev pub obstacle_of : Result Figures Broken → Result Figures Broken → (d h : ℕ) → Option Obstacle
obstacle_of (Err broken) ready d h = Some (Echo broken)
obstacle_of (Ok echo) (Err broken) d h = Some (Ready broken)
obstacle_of (Ok echo) (Ok ready) d h = option_map Pair (misfit_of echo ready d h)

abbrev pub echo_fit : (n t d h : ℕ) → CasterFit
echo_fit n t d h = caster_fit (Plain (standard_echo n t)) n t d h

abbrev pub ready_fit : (n t d h : ℕ) → CasterFit
ready_fit n t d h = caster_fit (Plain (standard_ready t d)) n t d h

abbrev pub standard_obstacle : (n t d h : ℕ) → Option Obstacle
standard_obstacle n t d h = obstacle_of (echo_fit n t d h).figures (ready_fit n t d h).figures d h

-- the answer, for a count of honest consoles that the floor may have
abbrev pub standard_fit_of : (n t d h : ℕ) → Result StandardFit Refusal
standard_fit_of n t d h =
    answer (first_found (check (nat_lt h (n - t) || nat_lt n h) OutOfRange ∷ []))
    (record { honest = h; echo = echo_fit n t d h; ready = ready_fit n t d h; obstacle = standard_obstacle n t d h })

-- the floor opens: both casters keep every rule at each count of honest consoles, and their figures fit at h
pub record Opens (n t d h : ℕ) : Type 0 where
  pub echo_made : Borne (Plain (standard_echo n t)) n t d
  pub ready_made : Borne (Plain (standard_ready t d)) n t d
  pub fits : Fits (figures_of (Plain (standard_echo n t)) n t d h) (figures_of (Plain (standard_ready t d)) n t d h) d h

-- no obstacle stands in the way exactly if the floor opens
abbrev pub Opening : (n t d h : ℕ) → StandardFit → Type 0
Opening n t d h fit = (fit.obstacle ≡ None → Opens n t d h) × (Opens n t d h → fit.obstacle ≡ None)
