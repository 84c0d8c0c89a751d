-- A caster that holds no memory of its caller's.
use Rattle.caster.specs.Laws.{Lasting}

pub nothing_lent : {S : Type 0} → Lasting {S = S} (λ _ _. Unit {0})
nothing_lent = record { same = λ a. tt; onward = λ a b c _ _. tt }
