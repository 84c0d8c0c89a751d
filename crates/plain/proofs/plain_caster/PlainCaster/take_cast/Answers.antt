-- A cast keeps the invariant.
use Rattle.plain_model.proofs.HiddenFacts.{cast_keeps, kept_count}
use Rattle.plain.proofs.plain_caster.PlainCaster.take_cast.Goals as goal

pub invariant_of-self : goal.invariant_of-self
invariant_of-self c =
    let caster = c.args.self.now in
    let vote = c.args.vote in
    let after = c.cast.new.self in
    let good = cast_keeps caster.plan caster.tables caster.good after vote.console vote.session vote.number c.requires (rw c.setting.ensures at c.cast.ensures) in
    record { counted = kept_count caster.plan after good; good = good }
