-- The members of a difference, and their number.
use Rattle.std.proofs.Common.{◌≡◌, ◌+◌, ◌-◌, ◌^◌, ◌<◌, ap, ◌∙◌, arith, rules}
use lib.Bits.{bit_and}
use lib.Count.{ones}
use Rattle.sets.specs.Members.{has}
use Rattle.sets.proofs.TwoMasks.{and_not, has_rest, ones_rest}
use Rattle.sets.proofs.console_set.ConsoleSet.difference.Goals as goal

pub returns : goal.returns
returns c =
    let m = c.args.self.mask in
    let d = c.args.other.mask in
    let fits : m < 2 ^ 32 = omega arith in
    let other_fits : d < 2 ^ 32 = omega arith in
    let left : bit_and m (4294967295 - d) ≡ m - bit_and m d = and_not 32 m d fits other_fits in
    record {
      set = search rules;
      members = λ k. ap (λ x. has x k) left ∙ has_rest m d k;
      sizes = ap (λ x. ones x + ones (bit_and m d)) left ∙ ones_rest m d;
    }
