-- An endorsement that can be injected is injected.
use Rattle.std.proofs.Common.{sym, ◌∙◌}
use Rattle.plain_tables.specs.declared.event.PlainEvent.TheVariants.{Inject}
use Rattle.plain.proofs.Accepting.{may_happen}
use Rattle.plain.proofs.plain_caster.PlainCaster.inject.Goals as goal

pub take_injection-requires : goal.take_injection-requires
take_injection-requires c =
    let caster = c.args.self.now in
    may_happen caster.plan caster.tables Inject c.args.e c.in_ok-route.route (sym c.to_inject.ensures ∙ c.in_ok-route.was)
