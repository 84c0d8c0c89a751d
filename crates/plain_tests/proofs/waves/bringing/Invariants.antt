-- Each turn takes an offered step, which lowers the steps left.
use Rattle.plain_tests.proofs.waves.bringing.Given as goal

abbrev pub decreases-loop-e : goal.decreases-loop-e
decreases-loop-e g l = (g.C.Caster.meaning l.caster).steps
