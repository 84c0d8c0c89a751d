-- An event whose place is answered is turned away by no check.
use Rattle.std.proofs.Common.{◌≡◌, None, Ok, sym, subst}
use Rattle.floor.proofs.Checks.{accepted}
use Rattle.floor.specs.Refusals.{first_found, answer}
use Rattle.plain_session.specs.declared.endorsement.Endorsement.{Endorsement}
use Rattle.plain_tables.specs.declared.event.PlainEvent.{PlainEvent}
use Rattle.plain_tables.specs.declared.plan.Plan.{Plan}
use Rattle.plain_tables.specs.declared.tables.Tables.{Tables}
use Rattle.plain_model.specs.Steps.{event_checks}

pub may_happen :
    (p : Plan) (x : Tables) (kind : Endorsement → PlainEvent) (e copy : Endorsement)
    → answer (first_found (event_checks p x (kind e))) e ≡ Ok copy → first_found (event_checks p x (kind copy)) ≡ None
may_happen p x kind e copy placed =
    let taken = accepted (first_found (event_checks p x (kind e))) e copy (sym placed) in
    subst (λ (r : Endorsement). first_found (event_checks p x (kind r)) ≡ None) (sym taken.1) taken.0
