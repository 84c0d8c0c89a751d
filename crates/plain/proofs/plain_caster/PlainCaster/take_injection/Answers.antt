-- An injected endorsement keeps the invariant.
use Rattle.plain_tables.specs.declared.event.PlainEvent.TheVariants.{Inject}
use Rattle.plain_model.proofs.HiddenFacts.{event_keeps, kept_count}
use Rattle.plain.proofs.plain_caster.PlainCaster.take_injection.Goals as goal

pub invariant_of-self : goal.invariant_of-self
invariant_of-self c =
    let caster = c.args.self.now in
    let after = c.receive.new.self in
    let good = event_keeps caster.plan caster.tables caster.good after (Inject c.args.route) c.requires (rw c.setting.ensures at c.receive.ensures.left) in
    record { counted = kept_count caster.plan after good; good = good }
