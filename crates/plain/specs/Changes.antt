-- What a change of a plain caster leaves.
use Rattle.std.specs.Prelude.{◌≡◌}
use Rattle.caster.specs.Meanings.{Answered}
use Rattle.plain_tables.specs.declared.event.PlainEvent.{PlainEvent}
use Rattle.plain_tables.specs.declared.tables.Tables.{Tables}
use Rattle.plain_model.specs.Steps.{Stepped}
use Rattle.plain.specs.declared.plain_caster.PlainCaster.{PlainCaster}

-- these tables, and the plan as it was
abbrev pub Leaves : PlainCaster → Tables → PlainCaster → Type 0
Leaves before tables after = (after.tables ≡ tables) × (after.plan ≡ before.plan)

-- what an event answers and leaves
abbrev pub Takes : PlainCaster → PlainEvent → Answered → PlainCaster → Type 0
Takes = Stepped (λ s. s.plan) (λ s. s.tables)
