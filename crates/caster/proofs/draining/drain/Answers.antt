-- An offered step is accepted and lowers the steps left, so the count fits and the loop ends.
use Rattle.std.proofs.Common.{sym, ◌∙◌, arith}
use Rattle.caster.specs.Draining.{none}
use Rattle.caster.proofs.Chains.{one_more}
use Rattle.caster.proofs.draining.drain.Goals as goal

pub loop-event-init : goal.loop-event-init
loop-event-init g c =
    let s = c.args.caster.now in (∣ none s ∣₁, omega arith, g.C.Caster.lasting.same s)

pub loop-event-preserved : goal.loop-event-preserved
loop-event-preserved g c =
    let first = c.args.caster.now in
    let last = c.loop-event.caster in
    let next = c.step.new.self in
    let event = c.in-Some.event in
    let is_offered = sym c.offer.ensures ∙ c.in-Some.is in
    let taken = g.C.Caster.laws.offer_taken last next event c.step.result is_offered c.step.ensures.stepped in (
      one_more g.C.Caster.stepped g.C.Caster.offered first last next c.loop-event.steps event c.step.result
          c.loop-event.invariant.0 is_offered c.step.ensures.stepped,
      omega (arith, c.loop-event.invariant.1, taken.1),
      g.C.Caster.lasting.onward first last next c.loop-event.invariant.2 c.step.ensures.lent,
    )
