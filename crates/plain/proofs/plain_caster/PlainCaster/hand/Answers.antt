-- A copy that can be handed over is handed over.
use Rattle.std.proofs.Common.{sym, ◌∙◌}
use Rattle.plain_tables.specs.declared.event.PlainEvent.TheVariants.{Hand}
use Rattle.plain.proofs.Accepting.{may_happen}
use Rattle.plain.proofs.plain_caster.PlainCaster.hand.Goals as goal

pub take_hand-requires : goal.take_hand-requires
take_hand-requires c =
    let caster = c.args.self.now in
    may_happen caster.plan caster.tables Hand c.args.e c.in_ok-route.route (sym c.to_hand.ensures ∙ c.in_ok-route.was)
