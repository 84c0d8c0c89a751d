-- The offered copy is the next one.
use Rattle.std.proofs.Common.{rules}
use Rattle.plain_model.proofs.HiddenFacts.{offered}
use Rattle.plain.proofs.plain_caster.PlainCaster.next_event.Goals as goal

pub returns : goal.returns
returns c =
    let caster = c.args.self.now in
    record {
      answered = search rules;
      lowest = offered caster.plan caster.tables caster.good c.hand_next.result (search rules);
    }
