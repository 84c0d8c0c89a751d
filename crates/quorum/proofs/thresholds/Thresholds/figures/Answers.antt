-- Two of the theorems on figures are lemmas of waves; the other clauses are found.
use Rattle.quorum.proofs.Waves.{supports, reaches}
use Rattle.quorum.proofs.thresholds.Thresholds.figures.Goals as goal

pub returns-in_err-floor-clause-supports : goal.returns-in_err-floor-clause-supports
returns-in_err-floor-clause-supports c = supports

pub returns-in_err-floor-clause-reaches : goal.returns-in_err-floor-clause-reaches
returns-in_err-floor-clause-reaches c = reaches

pub returns-in_err-ok-clause-supports : goal.returns-in_err-ok-clause-supports
returns-in_err-ok-clause-supports c = supports

pub returns-in_err-ok-clause-reaches : goal.returns-in_err-ok-clause-reaches
returns-in_err-ok-clause-reaches c = reaches

pub returns-clause-supports : goal.returns-clause-supports
returns-clause-supports c = supports

pub returns-clause-reaches : goal.returns-clause-reaches
returns-clause-reaches c = reaches
