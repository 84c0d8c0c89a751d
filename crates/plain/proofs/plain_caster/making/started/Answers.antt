-- A new caster keeps the invariant.
use Rattle.std.proofs.Common.{sym, subst}
use Rattle.plain_model.proofs.HiddenFacts.{kept_count}
use Rattle.plain_model.proofs.FreshTables.{new_good}
use Rattle.plain_model.specs.Invariant.{Good}
use Rattle.plain_model.specs.Plans.{SoundPlan}
use Rattle.plain.proofs.plain_caster.making.started.Goals as goal

pub invariant_of-result : goal.invariant_of-result
invariant_of-result c =
    let made = c.args.plan in
    let good = ∣ subst (Good made) (sym c.requires) (new_good made (subst SoundPlan c.plan.view_is c.plan.invariant)) ∣₁ in
    record { counted = kept_count made c.args.tables good; good = good }
