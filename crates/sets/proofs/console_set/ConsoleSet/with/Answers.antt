-- What a console that joins changes.
use Rattle.std.proofs.Common.{◌≡◌, ap, ◌∙◌, rules}
use lib.Bits.{bit_or}
use lib.Count.{ones}
use Rattle.sets.specs.Members.{has, with_member}
use Rattle.sets.proofs.Operations.{has_with_member, ones_with_new, with_old, with_beyond}
use Rattle.sets.proofs.console_set.ConsoleSet.with.Goals as goal

pub returns : goal.returns
unfolding with_member
returns c =
    let m = c.args.self.mask in
    let k = c.args.console in
    let joined : bit_or m c.digit.result ≡ with_member m k = search rules in
    record {
      set = search rules;
      members = λ j. ap (λ x. has x j) joined ∙ has_with_member m k j;
      raised = λ new below. ap ones joined ∙ ones_with_new m k new below;
      kept = λ old. ap (λ x. record { mask = x }) (joined ∙ with_old m k old);
      beyond = λ none. ap (λ x. record { mask = x }) (joined ∙ with_beyond m k none);
    }
