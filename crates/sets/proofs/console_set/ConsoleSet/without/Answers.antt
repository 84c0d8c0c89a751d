-- What a console that leaves changes.
use Rattle.std.proofs.Common.{◌≡◌, ◌+◌, ◌-◌, ◌^◌, ◌<◌, ap, ◌∙◌, arith, rules}
use lib.Bits.{bit_and}
use lib.Count.{ones}
use Rattle.sets.specs.Members.{has, without_member}
use Rattle.sets.proofs.Bits.{has_beyond}
use Rattle.sets.proofs.Operations.{has_without_member, ones_without_old, without_none}
use Rattle.sets.proofs.TwoMasks.{and_not}
use Rattle.sets.proofs.console_set.ConsoleSet.without.Goals as goal

pub returns : goal.returns
unfolding without_member
returns c =
    let m = c.args.self.mask in
    let k = c.args.console in
    let fits : m < 2 ^ 32 = omega arith in
    let digit_fits : c.digit.result < 2 ^ 32 = omega arith in
    let left : bit_and m (4294967295 - c.digit.result) ≡ without_member m k =
    and_not 32 m c.digit.result fits digit_fits ∙ search rules in
    record {
      set = search rules;
      members = λ j. ap (λ x. has x j) left ∙ has_without_member m k j fits;
      lowered = λ old. ap (λ x. ones x + 1) left ∙ ones_without_old m k fits old;
      kept = λ none. ap (λ x. record { mask = x }) (left ∙ without_none m k none);
      beyond = λ h. ap (λ x. record { mask = x }) (left ∙ without_none m k (has_beyond 32 m k fits h));
    }
