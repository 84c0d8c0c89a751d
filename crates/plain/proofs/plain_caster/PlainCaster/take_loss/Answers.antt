-- A copy that is lost keeps the invariant.
use Rattle.plain_tables.specs.declared.event.PlainEvent.TheVariants.{Lose}
use Rattle.plain_model.proofs.HiddenFacts.{event_keeps, kept_count}
use Rattle.plain.proofs.plain_caster.PlainCaster.take_loss.Goals as goal

pub invariant_of-self : goal.invariant_of-self
invariant_of-self c =
    let caster = c.args.self.now in
    let after = c.lose.new.self in
    let good = event_keeps caster.plan caster.tables caster.good after (Lose c.args.route) c.requires c.lose.ensures in
    record { counted = kept_count caster.plan after good; good = good }
