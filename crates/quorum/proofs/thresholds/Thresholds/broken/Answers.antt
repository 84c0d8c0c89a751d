-- A count at which a rule fails ends the loop, and one at which none fails leaves the answer to the next.
use Rattle.std.proofs.Common.{◌≡◌, Some, None, sym, ◌∙◌, arith, rules}
use Rattle.quorum.specs.Rules.{broken_at, first_broken}
use Rattle.quorum.proofs.Verdicts.{broken_here, broken_later, verdict}
use Rattle.quorum.proofs.Waves.{amplification, rules_amplify}
use Rattle.quorum.proofs.thresholds.Thresholds.broken.Goals as goal

pub loop-honest-preserved : goal.loop-honest-preserved
loop-honest-preserved c =
    let n = c.args.counts.consoles in let t = c.args.counts.byzantine in let d = c.args.counts.lost in
    let holds : broken_at c.args.self.now t d c.loop-honest.honest ≡ None = search rules in
    sym (broken_later c.args.self.now t d n c.loop-honest.honest (omega arith) holds) ∙ c.loop-honest.invariant

pub returns-in-Err-clause-answers : goal.returns-in-Err-clause-answers
returns-in-Err-clause-answers c =
    let n = c.args.counts.consoles in let t = c.args.counts.byzantine in let d = c.args.counts.lost in
    let fails : broken_at c.args.self.now t d c.loop-honest.honest ≡ Some c.in-Err.rule = search rules in
    sym (broken_here c.args.self.now t d n c.loop-honest.honest c.in-Err.rule (omega arith) fails) ∙ c.loop-honest.invariant

pub returns-in-Err-clause-means : goal.returns-in-Err-clause-means
returns-in-Err-clause-means c = verdict _ _ _ _ _ (returns-in-Err-clause-answers c)

pub returns-in_default-clause-means : goal.returns-in_default-clause-means
returns-in_default-clause-means c =
    let n = c.args.counts.consoles in let t = c.args.counts.byzantine in let d = c.args.counts.lost in
    let none : None ≡ first_broken c.args.self.now n t d = search rules in
    verdict c.args.self.now t d n None none

pub returns-in-Err-clause-amplification : goal.returns-in-Err-clause-amplification
returns-in-Err-clause-amplification c = (rules_amplify, amplification)

pub returns-in_default-clause-amplification : goal.returns-in_default-clause-amplification
returns-in_default-clause-amplification c = (rules_amplify, amplification)
