-- An endorsement that arrives keeps the invariant of the session, injected or handed over.
use Rattle.std.proofs.Common.{◌≡◌, ℕ, ◌<◌, true, false, sym, refl, subst, arith}
use Rattle.sets.specs.Members.{has}
use Rattle.plain_session.specs.Agendas.{noted}
use Rattle.plain_session.specs.Protocol.{forwarded, finished, received, handed}
use Rattle.plain_session.specs.Rows.{busy_row, hear_row, settle_row}
use Rattle.plain_session.specs.Sessions.{row_of, silent_row}
use Rattle.plain_session.specs.declared.agenda.Agenda.{Agenda}
use Rattle.plain_session.specs.declared.row.Row.{Row}
use Rattle.plain_session.specs.declared.session_table.SessionTable.{SessionTable}
use Rattle.plain_tables.specs.declared.plan.Plan.{Plan}
use Rattle.plain_model.specs.Invariant.{RowSized, GoodRow, GoodSession}
use Rattle.plain_model.specs.Plans.{SoundPlan, is_honest}
use Rattle.plain_model.specs.Views.{pending}
use Rattle.plain_model.proofs.AfterWrites.{by_place}
use Rattle.plain_model.proofs.Delivering.{finished_good}
use Rattle.plain_model.proofs.Forwarding.{forwarded_steady, forwarded_forwards, forwarded_finishes}
use Rattle.plain_model.proofs.Hearing.{Grown, hearing_grows, counts_elsewhere}
use Rattle.plain_model.proofs.HonestSet.{honest_console}
use Rattle.plain_model.proofs.PutRow.{put_row, Noted, with_row_noted}
use Rattle.plain_model.proofs.RowViews.{hear_sized, settle_sized}
use Rattle.plain_model.proofs.RowWrites.{inject_row_good, hand_row_good}
use Rattle.plain_model.proofs.SameEndorsers.{same_steady, same_forwards, same_finishes}
use Rattle.plain_model.proofs.SameRow.{settled_and_heard}

-- The receiver hears more of the number, then tries to forward and to deliver it.
heard_good :
    (p : Plan) (t : SessionTable) (v c : ℕ) (r : Row) (a : Agenda) → SoundPlan p → GoodSession p t → v < p.floor.capacity
    → is_honest p c ≡ true → r.endorsed ≡ (row_of t v).endorsed → Grown c (row_of t v).heard r.heard → RowSized r → GoodRow p v r
    → Noted (put_row t v r t.voters a)
    → GoodSession p (finished p.setting (forwarded p.setting (put_row t v r t.voters a) v c) v c)
heard_good p t v c r a sound good known honest endorsers grown sized row noted =
    let after = put_row t v r t.voters a in
    let steady = same_steady p t v r a endorsers grown.more good.steady sized row noted in
    let count = counts_elsewhere t v c r a grown in
    finished_good p (forwarded p.setting after v c) v c (forwarded_steady p after v c sound steady known honest) known honest
    (honest_console p c sound honest)
    (forwarded_forwards p after v c sound steady known honest
    (λ u k apart. same_forwards p t v r a endorsers grown.more u k (count u k apart) (good.forwarding u k)))
    (λ u k apart. forwarded_finishes p after v c u k
    (same_finishes p t v r a endorsers grown.more u k (count u k apart) (good.heard_delivered u k)))

-- An injected endorsement: nothing is sent or taken off, so the same numbers have copies under way.
pub received_good :
    (p : Plan) (t : SessionTable) (v f c : ℕ) → SoundPlan p → GoodSession p t → v < p.floor.capacity → f < p.floor.consoles
    → is_honest p f ≡ false → is_honest p c ≡ true → GoodSession p (received p.setting t v f c)
received_good p t v f c sound good known sender byzantine honest =
    let row = row_of t v in
    let table = good.steady.table in
    let sized = table.rows_sized v (omega (arith, sound.few_numbers)) in
    heard_good p t v c (hear_row row f c) t.numbers sound good known honest refl (hearing_grows row.heard f c)
    (hear_sized row sized f c) (inject_row_good p v row sound sized (table.rows v) f c sender byzantine honest) (
      table.number_places,
      by_place (λ u r. has t.numbers.places.mask u ≡ busy_row r) t.rows v (hear_row row f c) silent_row (table.numbers_noted v)
          table.numbers_noted,
    )

-- A copy that is handed over.
pub handed_good :
    (p : Plan) (t : SessionTable) (v f c : ℕ) → SoundPlan p → GoodSession p t → v < p.floor.capacity → is_honest p f ≡ true
    → is_honest p c ≡ true → pending (row_of t v) f c ≡ true → GoodSession p (handed p.setting t v f c)
handed_good p t v f c sound good known sender honest under_way =
    let row = row_of t v in
    let new = hear_row (settle_row row f c) f c in
    let table = good.steady.table in
    let few : v < 8 = omega (arith, sound.few_numbers) in
    let sized = table.rows_sized v few in
    subst (λ (x : SessionTable). GoodSession p (finished p.setting (forwarded p.setting x v c) v c))
    (sym (settled_and_heard t v f c (omega (arith, table.row_places))))
    (heard_good p t v c new (noted t.numbers v (busy_row new)) sound good known honest refl
    (hearing_grows row.heard f c) (hear_sized (settle_row row f c) (settle_sized row sized f c) f c)
    (hand_row_good p v row sound sized (table.rows v) f c sender honest under_way)
    (with_row_noted p t v new t.voters table few))
