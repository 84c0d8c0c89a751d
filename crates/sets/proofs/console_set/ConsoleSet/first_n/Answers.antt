-- The consoles below n are the largest set below n.
use Rattle.std.proofs.Common.{sym, ap, ◌∙◌, rules}
use lib.Count.{ones}
use Rattle.sets.specs.Members.{has}
use Rattle.sets.proofs.Operations.{has_first_mask, first_mask_within, ones_first_mask}
use Rattle.sets.proofs.Sizes.{ones_within}
use Rattle.sets.proofs.console_set.ConsoleSet.first_n.Goals as goal

pub returns : goal.returns
returns c =
    let n = c.args.n in
    let all = c.digits_below.ensures in
    record {
      set = search rules;
      members = λ k. ap (λ m. has m k) all ∙ has_first_mask n k;
      within = λ k h. first_mask_within n k (sym (ap (λ m. has m k) all) ∙ h);
      size = ap ones all ∙ ones_first_mask n;
      largest = search (rules, ones_within);
    }
