-- Nothing stands in the way of a floor exactly if both casters keep their rules and fit.
use Rattle.std.proofs.Common.{◌≡◌, ℕ, Some, None, Option, Ok, Err, sym, refl, ◌∙◌}
use Rattle.std.specs.Option.{option_map, option_map_or}
use Rattle.quorum.proofs.Fitting.{fits_unless, no_misfit}
use Rattle.quorum.proofs.Verdicts.{verdict, unbroken}
use Rattle.quorum.specs.declared.figures.Figures.{Figures}
use Rattle.quorum.specs.declared.fit.Misfit.{Misfit}
use Rattle.quorum.specs.declared.rules.Broken.{Broken}
use Rattle.quorum.specs.declared.thresholds.Thresholds.{Thresholds}
use Rattle.quorum.specs.declared.thresholds.Thresholds.TheVariants.{Plain}
use Rattle.quorum.specs.Figures.{figures_of}
use Rattle.quorum.specs.Fit.{Fits}
use Rattle.quorum.specs.Rules.{Borne, first_broken}
use Rattle.quorum.specs.Standard.{standard_echo, standard_ready}
use Rattle.fitting.specs.declared.obstacle.Obstacle.{Obstacle}
use Rattle.fitting.specs.declared.obstacle.Obstacle.TheVariants.{Pair}
use Rattle.fitting.specs.Fitting.{Opens, obstacle_of, standard_obstacle}

none_mapped : (o : Option Misfit) → option_map Pair o ≡ None → o ≡ None
none_mapped None e = refl
none_mapped (Some m) e = absurd cc

module _ (echo ready : Thresholds) (n t d h : ℕ) (f g : Figures) where
  -- no obstacle: both are made, and fit
  opens_from :
      (a b : Option Broken) → a ≡ first_broken echo n t d → b ≡ first_broken ready n t d
      → obstacle_of (option_map_or Err a (Ok f)) (option_map_or Err b (Ok g)) d h ≡ None → Borne echo n t d × Borne ready n t d × Fits f g d h
  opens_from None None p q e = (verdict echo t d n None p, verdict ready t d n None q, fits_unless f g d h (none_mapped _ e))
  opens_from None (Some y) p q e = absurd cc
  opens_from (Some x) b p q e = absurd cc

  opens_to :
      (a b : Option Broken) → a ≡ first_broken echo n t d → b ≡ first_broken ready n t d
      → Borne echo n t d → Borne ready n t d → Fits f g d h → obstacle_of (option_map_or Err a (Ok f)) (option_map_or Err b (Ok g)) d h ≡ None
  opens_to a b p q made also fits = rw (unbroken echo t d n a p made, unbroken ready t d n b q also, no_misfit f g d h fits)

-- the obstacle of the standard pair is none exactly if the floor opens
pub opening : (n t d h : ℕ) (o : Option Obstacle) → o ≡ standard_obstacle n t d h → (o ≡ None → Opens n t d h) × (Opens n t d h → o ≡ None)
opening n t d h o e =
    let echo = Plain (standard_echo n t) in
    let ready = Plain (standard_ready t d) in
    let f = figures_of echo n t d h in
    let g = figures_of ready n t d h in (
      λ none. let all = opens_from echo ready n t d h f g (first_broken echo n t d) (first_broken ready n t d) refl refl (sym e ∙ none) in
          record { echo_made = all.0; ready_made = all.1; fits = all.2 },
      λ opens. e ∙ opens_to echo ready n t d h f g (first_broken echo n t d) (first_broken ready n t d) refl refl opens.echo_made opens.ready_made opens.fits,
    )
