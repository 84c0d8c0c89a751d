-- What a plain caster is made of, and when that is in order.
use Rattle.std.specs.Prelude.{◌≡◌, ℕ, ◌+◌, ◌^◌, ◌<◌, ◌≤◌, Bool, ◌&&◌, count_ones}
use Rattle.sets.specs.Counting.{count}
use Rattle.sets.specs.Members.{has}
use Rattle.quorum.specs.Figures.{backing_of, figures_of}
use Rattle.quorum.specs.Rules.{PlainRules}
use Rattle.quorum.specs.declared.thresholds.Thresholds.TheVariants.{Plain}
use Rattle.caster.specs.Floors.{honest_consoles}
use Rattle.plain_tables.specs.declared.plan.Plan.{Plan}

abbrev pub is_honest : Plan → ℕ → Bool
is_honest p console = has p.setting.honest.mask console

-- how many consoles are honest
abbrev pub honest_total : Plan → ℕ
honest_total p = count_ones p.setting.honest.mask

-- how many honest consoles satisfy a test
abbrev pub among : Plan → (ℕ → Bool) → ℕ
among p test = count p.floor.consoles (λ console. is_honest p console && test console)

-- so many honest consoles are among any that suffice to forward
abbrev pub backing : Plan → ℕ
backing p = backing_of p.floor.consoles (honest_total p) p.setting.thresholds.forward

-- The floor is in range, the thresholds keep their rules on it, and the figures are theirs.
pub record SoundPlan (p : Plan) : Type 0 where
  pub few_consoles : p.floor.consoles ≤ 32
  pub few_sessions : p.floor.sessions ≤ 16
  pub few_numbers : p.floor.capacity ≤ 8
  pub byzantine_within : p.floor.byzantine.mask < 2 ^ p.floor.consoles
  pub honest_set : p.setting.honest ≡ honest_consoles p.floor
  pub tolerable : p.floor.consoles ≤ honest_total p + p.tolerated
  pub rules : PlainRules p.tolerated p.floor.lost p.setting.thresholds.deliver p.setting.thresholds.forward (honest_total p)
  pub figures :
      p.figures
      ≡ figures_of (Plain p.setting.thresholds) p.floor.consoles p.tolerated p.floor.lost (honest_total p)
