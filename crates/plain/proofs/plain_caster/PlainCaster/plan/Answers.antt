-- The plan of thresholds that the draft's floor bears is sound.
use Rattle.std.proofs.Common.{◌≡◌, sym, subst, rules, arith}
use Rattle.floor.specs.States.{state_of}
use Rattle.caster.specs.Floors.{InRange}
use Rattle.quorum.specs.Rules.{Borne}
use Rattle.quorum.specs.declared.thresholds.Thresholds.TheVariants.{Plain}
use Rattle.plain_tables.specs.declared.plan.Plan.{Plan}
use Rattle.plain_model.specs.Making.{plan_for}
use Rattle.plain_model.specs.Plans.{SoundPlan}
use Rattle.plain_model.proofs.MadePlans.{Drafted, made_sound}
use Rattle.plain.proofs.plain_caster.PlainCaster.plan.Goals as goal

pub invariant_of-plan : goal.invariant_of-plan
invariant_of-plan c =
    let s = state_of c.args.draft.now in
    let q = c.args.thresholds in
    let floor = c.from-floor.ensures in
    let drafted : Drafted s =
    record { in_range = subst InRange floor.value floor.in_range; byzantine = floor.tolerated; byzantines = omega arith } in
    let told = c.composition-composition.ensures in
    let borne : Borne (Plain q) s.n s.t s.d =
    rw (c.from.ensures, told.consoles, told.byzantine, told.lost) at c.in_ok-figures.ensures.means.0 in
    let made : Plan =
    record {
      floor = c.from-floor.result;
      tolerated = c.max_byzantine.result;
      setting = record { honest = c.honest.result; thresholds = q };
      figures = c.in_ok-figures.figures;
    } in
    let same : made ≡ plan_for s q = search rules in
    subst SoundPlan (sym same) (made_sound s q drafted borne)

pub invariant_of-result : goal.invariant_of-result
invariant_of-result c = record { sound = invariant_of-plan c }
