-- Two writes to the row of one number are one write.
use Rattle.std.proofs.Common.{◌≡◌, ℕ, ◌<◌, List, length, ap, ◌∙◌}
use Rattle.std.proofs.lemmas.List.{set-set}
use Rattle.sets.specs.declared.console_set.ConsoleSet.{ConsoleSet}
use Rattle.plain_session.specs.Agendas.{noted}
use Rattle.plain_session.specs.Protocol.{lost_copy}
use Rattle.plain_session.specs.Rows.{busy_row, hear_row, settle_row, lose_row}
use Rattle.plain_session.specs.Sessions.{row_of, with_row, hear_table, settle_table}
use Rattle.plain_session.specs.declared.agenda.Agenda.{Agenda}
use Rattle.plain_session.specs.declared.row.Row.{Row}
use Rattle.plain_session.specs.declared.session_table.SessionTable.{SessionTable}
use Rattle.plain_model.proofs.PutRow.{put_row, put_here}

-- A row is put, read, changed and put again, and the number is noted as the last row tells.
twice :
    (t : SessionTable) (v : ℕ) (r : Row) (w : ConsoleSet) (a : Agenda) (next : Row → Row) (note : Row → Agenda) → v < length t.rows
    → put_row (put_row t v r w a) v (next (row_of (put_row t v r w a) v)) w (note (next (row_of (put_row t v r w a) v)))
    ≡ put_row t v (next r) w (note (next r))
twice t v r w a next note known =
    ap (λ (x : Row). put_row (put_row t v r w a) v (next x) w (note (next x))) (put_here t v r w a known)
    ∙ ap (λ (rows : List Row).
    record { rows = rows; voters = w; casts = t.casts; deliveries = t.deliveries; numbers = note (next r) })
    (set-set t.rows v r (next r))

-- A copy is taken off and then heard.
pub settled_and_heard :
    (t : SessionTable) (v f c : ℕ) → v < length t.rows
    → hear_table (settle_table t v f c) v f c ≡ with_row t v (hear_row (settle_row (row_of t v) f c) f c) t.voters
settled_and_heard t v f c =
    let agenda = noted t.numbers v (busy_row (settle_row (row_of t v) f c)) in
    twice t v (settle_row (row_of t v) f c) t.voters agenda (λ r. hear_row r f c) (λ _. agenda)

-- A copy is marked as lost and then taken off.
pub lost_and_settled :
    (t : SessionTable) (v f c : ℕ) → v < length t.rows
    → lost_copy t v f c ≡ with_row t v (settle_row (lose_row (row_of t v) f c) f c) t.voters
lost_and_settled t v f c =
    twice t v (lose_row (row_of t v) f c) t.voters t.numbers (λ r. settle_row r f c) (λ r. noted t.numbers v (busy_row r))
