use Rattle.std.proofs.Common.{◌≡◌, rules}
use Rattle.fitting.specs.Fitting.{standard_obstacle}
use Rattle.fitting.proofs.Opening.{opening}
use Rattle.fitting.proofs.standard.standard_fit.Goals as goal

pub returns-clause-opening : goal.returns-clause-opening
returns-clause-opening c =
    let n = c.args.counts.consoles in let t = c.args.counts.byzantine in let d = c.args.counts.lost in
    let obstacle : c.err-obstacle.result ≡ standard_obstacle n t d c.args.honest = search rules in
    opening n t d c.args.honest c.err-obstacle.result obstacle
