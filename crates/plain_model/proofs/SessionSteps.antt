-- A copy that is handed over or lost is one of the steps that a session has left, and nothing else is.
use Rattle.std.proofs.Common.{◌≡◌, ℕ, ◌+◌, ◌<◌, true, false, length, sym, refl, ap, ◌∙◌, arith}
use Rattle.std.proofs.lemmas.List.{get_or-set_same, get_or-set_other}
use Rattle.sets.proofs.Sums.{sum_but_one, sum_cong}
use Rattle.plain_session.specs.Protocol.{heard_and_forwarded, received, handed, lost_copy, casting}
use Rattle.plain_session.specs.Rows.{hear_row, settle_row, lose_row, endorse_row}
use Rattle.plain_session.specs.Sessions.{silent_row, row_of, hear_table, with_row, settle_table, endorse_table}
use Rattle.plain_session.specs.declared.row.Row.{Row}
use Rattle.plain_session.specs.declared.session_table.SessionTable.{SessionTable}
use Rattle.plain_session.specs.declared.setting.Setting.{Setting}
use Rattle.plain_tables.specs.declared.plan.Plan.{Plan}
use Rattle.plain_model.specs.Invariant.{RowSized, GoodSession}
use Rattle.plain_model.specs.Plans.{SoundPlan, is_honest}
use Rattle.plain_model.specs.Steps.{row_steps, session_steps}
use Rattle.plain_model.specs.Views.{pending}
use Rattle.plain_model.proofs.AfterWrites.{by_place}
use Rattle.plain_model.proofs.HonestSet.{honest_below}
use Rattle.plain_model.proofs.RowSteps.{hand_row_steps, lose_row_steps, inject_row_steps}
use Rattle.plain_model.proofs.SameRow.{settled_and_heard, lost_and_settled}
use Rattle.plain_model.proofs.SessionMoves.{forwarding_keeps, finishing_keeps, casting_shows}

-- ---- one number

-- Endorsing and delivering leave the steps of each number as they are.
endorse_steps :
    (p : Plan) (setting : Setting) (t : SessionTable) (v c u : ℕ)
    → row_steps p (row_of (endorse_table t v c setting.honest) u) ≡ row_steps p (row_of t u)
endorse_steps p setting t v c =
    by_place (λ (u : ℕ) (r : Row). row_steps p r ≡ row_steps p (row_of t u)) t.rows v
    (endorse_row (row_of t v) c setting.honest) silent_row refl (λ u. refl)

received_steps :
    (p : Plan) (setting : Setting) (t : SessionTable) (v f c u : ℕ)
    → row_steps p (row_of (received setting t v f c) u) ≡ row_steps p (row_of (hear_table t v f c) u)
received_steps p setting t v f c u =
    finishing_keeps setting (heard_and_forwarded setting t v f c) v c (λ x. row_steps p (row_of x u)) refl
    ∙ forwarding_keeps setting (hear_table t v f c) v c (λ x. row_steps p (row_of x u)) (endorse_steps p setting (hear_table t v f c) v c u)

-- ---- the session

-- One number's row is replaced, and its steps fall by one.
one_number :
    (p : Plan) (t x : SessionTable) (v : ℕ) (r : Row) → v < p.floor.capacity → v < length t.rows
    → row_steps p (row_of t v) ≡ row_steps p r + 1
    → ((u : ℕ) → row_steps p (row_of x u) ≡ row_steps p (row_of (with_row t v r t.voters) u))
    → session_steps p t ≡ session_steps p x + 1
one_number p t x v r below place falls after =
    sum_but_one p.floor.capacity v 1 (λ u. row_steps p (row_of t u)) (λ u. row_steps p (row_of x u)) below
    (λ u other. sym (after u ∙ ap (row_steps p) (get_or-set_other t.rows v u r silent_row other)))
    (falls ∙ ap (λ (k : ℕ). k + 1) (sym (after v ∙ ap (row_steps p) (get_or-set_same t.rows v r silent_row place))))

module _ (p : Plan) (t : SessionTable) (v f c : ℕ) (sound : SoundPlan p) (good : GoodSession p t) (below : v < p.floor.capacity)
    (to : is_honest p c ≡ true) where
  place : v < 8
  place = omega (arith, sound.few_numbers)

  room : v < length t.rows
  room = omega (arith, place, good.steady.table.row_places)

  sized : RowSized (row_of t v)
  sized = good.steady.table.rows_sized v place

  -- A copy that is handed over is one step.
  pub handed_falls :
      is_honest p f ≡ true → pending (row_of t v) f c ≡ true → session_steps p t ≡ session_steps p (handed p.setting t v f c) + 1
  handed_falls from way =
      one_number p t (handed p.setting t v f c) v (hear_row (settle_row (row_of t v) f c) f c) below room
      (hand_row_steps p (row_of t v) f c sized sound.few_consoles (honest_below p f sound from) (honest_below p c sound to) v
      (good.steady.table.rows v) from to way)
      (λ u.
      received_steps p p.setting (settle_table t v f c) v f c u
      ∙ ap (λ (x : SessionTable). row_steps p (row_of x u)) (settled_and_heard t v f c room))

  -- So is one that is lost.
  pub lost_falls :
      is_honest p f ≡ true → pending (row_of t v) f c ≡ true → session_steps p t ≡ session_steps p (lost_copy t v f c) + 1
  lost_falls from way =
      one_number p t (lost_copy t v f c) v (settle_row (lose_row (row_of t v) f c) f c) below room
      (lose_row_steps p (row_of t v) f c sized sound.few_consoles (honest_below p f sound from) (honest_below p c sound to) v
      (good.steady.table.rows v) from to way)
      (λ u. ap (λ (x : SessionTable). row_steps p (row_of x u)) (lost_and_settled t v f c room))

  -- A Byzantine console's endorsement is none.
  pub received_stays :
      f < p.floor.consoles → is_honest p f ≡ false → session_steps p (received p.setting t v f c) ≡ session_steps p t
  received_stays from byzantine =
      sum_cong p.floor.capacity _ _
      (λ u _.
      received_steps p p.setting t v f c u
      ∙ by_place (λ (k : ℕ) (r : Row). row_steps p r ≡ row_steps p (row_of t k)) t.rows v (hear_row (row_of t v) f c) silent_row
      (inject_row_steps p (row_of t v) f c sized sound.few_consoles from (honest_below p c sound to) byzantine) (λ k. refl) u)

-- A cast is none.
pub casting_stays : (p : Plan) (t : SessionTable) (v c : ℕ) → session_steps p (casting p.setting t v c) ≡ session_steps p t
casting_stays p t v c =
    sum_cong p.floor.capacity _ _
    (λ u _.
    casting_shows p.setting t v c (λ x. row_steps p (row_of x u)) (row_steps p (row_of t u)) refl
    (endorse_steps p p.setting t v c u))
