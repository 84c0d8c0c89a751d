-- Each turn takes an offered step, which lowers the steps left.
use Rattle.plain_tests.proofs.refusals.same_course.Given as goal

abbrev pub decreases-loop-event : goal.decreases-loop-event
decreases-loop-event g l = (g.C.Caster.meaning l.one).steps
