-- What it means that an intersection is the first set.
use Rattle.std.proofs.Common.{ap, rules}
use Rattle.std.proofs.lemmas.Bool.{eq-eqb, eqb-true}
use Rattle.sets.specs.Members.{subset}
use Rattle.sets.proofs.Sizes.{subset_le, subset_whole}
use Rattle.sets.proofs.TwoMasks.{subset_members, members_subset}
use Rattle.sets.proofs.console_set.ConsoleSet.is_subset.Goals as goal

pub returns : goal.returns
unfolding subset
returns c =
    let a = c.args.self.mask in
    let b = c.args.other.mask in
    record {
      answer = search rules;
      members = (λ yes'. subset_members a b (eqb-true _ _ yes'), λ each. eq-eqb _ _ (members_subset a b each));
      size = λ yes'. subset_le a b (eqb-true _ _ yes');
      whole = λ yes' large. ap (λ x. record { mask = x }) (subset_whole a b (eqb-true _ _ yes') large);
    }
