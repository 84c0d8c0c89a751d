-- Which copy is offered: the lowest by session, then number, then sender, then receiver.
use Rattle.std.specs.Prelude.{◌≡◌, ◌<◌, true, false, ◌⊎◌, Some, None, Option}
use Rattle.plain_session.specs.declared.endorsement.Endorsement.{Endorsement}
use Rattle.plain_tables.specs.Tables.{under_way}
use Rattle.plain_tables.specs.declared.event.PlainEvent.{PlainEvent}
use Rattle.plain_tables.specs.declared.event.PlainEvent.TheVariants.{Hand, Lose, Inject}
use Rattle.plain_tables.specs.declared.tables.Tables.{Tables}

-- a stands before b
abbrev pub Before : Endorsement → Endorsement → Type 0
Before a b =
    (a.session < b.session)
    ⊎ ((a.session ≡ b.session)
    × ((a.number < b.number)
    ⊎ ((a.number ≡ b.number)
    × ((a.sender < b.sender) ⊎ ((a.sender ≡ b.sender) × (a.receiver < b.receiver))))))

-- the copy is under way, and none that stands before it is
abbrev pub NextCopy : Tables → Endorsement → Type 0
NextCopy x e = (under_way x e ≡ true) × ((other : Endorsement) → Before other e → under_way x other ≡ false)

-- what an offer says: that nothing is under way, or to hand over the next copy
abbrev pub Offers : Tables → Option PlainEvent → Type 0
Offers x None = (e : Endorsement) → under_way x e ≡ false
Offers x (Some (Hand e)) = NextCopy x e
Offers x (Some (Lose e)) = ⊥
Offers x (Some (Inject e)) = ⊥
