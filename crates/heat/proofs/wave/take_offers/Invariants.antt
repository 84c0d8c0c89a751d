-- Each turn takes an offered step, which lowers the steps left.
use Rattle.heat.proofs.wave.take_offers.Given as goal

abbrev pub decreases-loop-event : goal.decreases-loop-event
decreases-loop-event g l = (g.C.Caster.meaning l.caster).steps
