-- What the counts from this one on will answer is the answer.
use Rattle.std.proofs.Common.{◌≡◌, ◌+◌, ◌-◌}
use Rattle.quorum.specs.Rules.{broken_from, first_broken}
use Rattle.quorum.proofs.thresholds.Thresholds.broken.Given as goal

abbrev pub invariant-loop-honest : goal.invariant-loop-honest
invariant-loop-honest l =
    broken_from l.self l.counts.byzantine l.counts.lost l.honest (l.counts.consoles + 1 - l.honest)
    ≡ first_broken l.self l.counts.consoles l.counts.byzantine l.counts.lost
