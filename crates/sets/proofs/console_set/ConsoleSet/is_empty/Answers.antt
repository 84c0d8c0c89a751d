-- A mask is 0 exactly if it has no member.
use Rattle.std.proofs.Common.{ap, ◌∙◌, rules}
use lib.Count.{ones}
use Rattle.std.proofs.lemmas.Bool.{eq-eqb, eqb-true}
use Rattle.sets.specs.Members.{has}
use Rattle.sets.proofs.Bits.{has_zero, no_members}
use Rattle.sets.proofs.Sizes.{ones_zero}
use Rattle.std.proofs.lemmas.Nat.{zero_from_ones}
use Rattle.sets.proofs.console_set.ConsoleSet.is_empty.Goals as goal

pub returns : goal.returns
returns c =
    let m = c.args.self.mask in
    record {
      answer = search rules;
      members = (
        λ empty k. ap (λ x. has x k) (eqb-true _ _ empty) ∙ has_zero k,
        λ none. eq-eqb _ _ (no_members m none),
      );
      size = (λ empty. ap ones (eqb-true _ _ empty) ∙ ones_zero, λ none. eq-eqb _ _ (zero_from_ones m none));
    }
