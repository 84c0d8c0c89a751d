-- Each turn takes an offered step and lowers the steps left.
use Rattle.std.proofs.Common.{◌+◌, ◌≤◌}
use Rattle.caster.specs.Draining.{Chain}
use Rattle.caster.proofs.draining.drain.Given as goal

abbrev pub invariant-loop-event : goal.invariant-loop-event
invariant-loop-event g l =
    ∥ Chain g.C.Caster.stepped g.C.Caster.offered l.initial.caster l.steps l.caster ∥₁
    × (l.steps + (g.C.Caster.meaning l.caster).steps ≤ (g.C.Caster.meaning l.initial.caster).steps)
    × g.C.Caster.loan l.initial.caster l.caster

abbrev pub decreases-loop-event : goal.decreases-loop-event
decreases-loop-event g l = (g.C.Caster.meaning l.caster).steps
