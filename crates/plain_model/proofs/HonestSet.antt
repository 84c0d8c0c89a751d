-- The honest consoles of a sound plan: they lie on the floor, and the plan counts them as the floor does.
use Rattle.std.proofs.Common.{◌≡◌, ℕ, ◌+◌, ◌<◌, ◌≤◌, Bool, true, not, ◌&&◌, refl, ap, ◌∙◌, arith}
use lib.Count.{ones}
use Rattle.std.proofs.lemmas.Bool.{lt-ltb}
use Rattle.std.proofs.lemmas.Bool.Decides.{nat_tests}
use Rattle.sets.proofs.Bounds.{count_both}
use Rattle.sets.proofs.Counts.{count_cong, count_le}
use Rattle.sets.proofs.Operations.{has_first_mask}
use Rattle.sets.proofs.Sizes.{ones_count_within}
use Rattle.sets.proofs.TwoMasks.{has_rest}
use Rattle.sets.specs.Counting.{count}
use Rattle.sets.specs.Members.{has, Within, first_mask}
use Rattle.sets.specs.declared.console_set.ConsoleSet.{ConsoleSet}
use Rattle.caster.specs.Floors.{honest, honestly}
use Rattle.plain_tables.specs.declared.plan.Plan.{Plan}
use Rattle.plain_model.specs.Plans.{SoundPlan, is_honest, honest_total, among}
use Rattle.plain_model.specs.Steps.{byzantine}

-- The plan and the floor have the same honest consoles,
pub honest_is : (p : Plan) (c : ℕ) → SoundPlan p → is_honest p c ≡ honest p.floor c
honest_is p c sound =
    let few = sound.few_consoles in
    ap (λ (s : ConsoleSet). has s.mask c) sound.honest_set
    ∙ has_rest (first_mask p.floor.consoles) p.floor.byzantine.mask c
    ∙ rw (has_first_mask p.floor.consoles c) (grind (arith, nat_tests))

-- all of them on the floor,
pub honest_below : (p : Plan) (c : ℕ) → SoundPlan p → is_honest p c ≡ true → c < p.floor.consoles
honest_below p c sound e = let known = honest_is p c sound in grind (arith, nat_tests)

pub honest_console : (p : Plan) (c : ℕ) → SoundPlan p → is_honest p c ≡ true → c < 32
honest_console p c sound e = omega (arith, honest_below p c sound e, sound.few_consoles)

-- and each console of the floor is honest or Byzantine.
pub honest_or_byzantine : (p : Plan) (c : ℕ) → SoundPlan p → c < p.floor.consoles → is_honest p c ≡ not (byzantine p.floor c)
honest_or_byzantine p c sound below = honest_is p c sound ∙ rw (lt-ltb c p.floor.consoles below) refl

-- ---- how many there are

honest_within : (p : Plan) → SoundPlan p → Within p.floor.consoles p.setting.honest.mask
honest_within p sound c = honest_below p c sound

-- The plan counts them right, and they are no more than the consoles.
pub honest_counted : (p : Plan) → SoundPlan p → honest_total p ≡ count p.floor.consoles (is_honest p)
honest_counted p sound = ones_count_within p.floor.consoles p.setting.honest.mask (honest_within p sound)

pub honest_most : (p : Plan) → SoundPlan p → honest_total p ≤ p.floor.consoles
honest_most p sound = omega (arith, honest_counted p sound, count_le p.floor.consoles (is_honest p))

-- Counting honest consoles by the plan or by the floor is the same.
pub among_honestly : (p : Plan) (test : ℕ → Bool) → SoundPlan p → among p test ≡ honestly p.floor test
among_honestly p test sound =
    count_cong p.floor.consoles _ _ (λ c _. ap (λ (b : Bool). b && test c) (honest_is p c sound))

-- All members of a set but the Byzantine ones are honest.
pub honest_members :
    (p : Plan) (m : ℕ) → SoundPlan p → Within p.floor.consoles m
    → ones m + honest_total p ≤ p.floor.consoles + among p (has m)
honest_members p m sound within =
    omega (
      arith,
      honest_counted p sound,
      ones_count_within p.floor.consoles m within,
      count_both p.floor.consoles (is_honest p) (has m),
    )
