-- Where no copy is noted, none is under way.
use Rattle.std.proofs.Common.{◌≡◌, ℕ, ◌<◌, true, false, not, eqb, sym, ◌∙◌, ⊎_elim}
use Rattle.std.proofs.lemmas.Bool.{cases_Bool, eqb-true, not-false}
use Rattle.sets.proofs.Bits.{has_zero}
use Rattle.sets.specs.Members.{has}
use Rattle.plain_session.specs.Sessions.{empty_session, row_of}
use Rattle.plain_session.specs.declared.row.Row.{Row}
use Rattle.plain_session.specs.declared.session_table.SessionTable.{SessionTable}
use Rattle.plain_tables.specs.Tables.{session_of, quiet}
use Rattle.plain_tables.specs.declared.plan.Plan.{Plan}
use Rattle.plain_tables.specs.declared.tables.Tables.{Tables}
use Rattle.plain_model.specs.Invariant.{Good, GoodRow, GoodSession}
use Rattle.plain_model.specs.Views.{pending}
use Rattle.plain_model.proofs.OneSession.{session_good, used}
use Rattle.plain_model.proofs.SetFacts.{no_member}
use Rattle.plain_model.proofs.StillRows.{none_pending, still_rows}

-- A mask that is not told to be busy is empty.
empty_mask : (m : ℕ) → not (eqb m 0) ≡ false → m ≡ 0
empty_mask m idle = eqb-true m 0 (not-false (eqb m 0) idle)

-- A sender that is not noted has no copy under way, nor has a number or a session that is not noted.
pub idle_sender :
    (p : Plan) (v : ℕ) (r : Row) (f : ℕ) → GoodRow p v r → has r.senders.places.mask f ≡ false → (c : ℕ) → pending r f c ≡ false
idle_sender p v r f good idle c = no_member _ c (empty_mask _ (sym (good.senders_noted f) ∙ idle))

pub idle_number :
    (p : Plan) (t : SessionTable) (v : ℕ) → GoodSession p t → has t.numbers.places.mask v ≡ false
    → (f c : ℕ) → pending (row_of t v) f c ≡ false
idle_number p t v good idle f c =
    let table = good.steady.table in
    idle_sender p v (row_of t v) f (table.rows v) (no_member _ f (empty_mask _ (sym (table.numbers_noted v) ∙ idle))) c

module _ (p : Plan) (x : Tables) (good : Good p x) where
  -- A copy under way is in a session of the floor.
  pub way_session : (s v f c : ℕ) → pending (row_of (session_of x s) v) f c ≡ true → s < p.floor.sessions
  way_session s v f c =
      used p x good (λ t. pending (row_of t v) f c) s (none_pending (row_of empty_session v) (still_rows v) f c) (has_zero c)

  pub idle_session : (s : ℕ) → has x.busy.places.mask s ≡ false → (v f c : ℕ) → pending (row_of (session_of x s) v) f c ≡ false
  idle_session s idle v f c =
      ⊎_elim
      (λ way.
      idle_number p (session_of x s) v (session_good p x good s (way_session s v f c way))
      (no_member _ v (empty_mask _ (sym (good.sessions_noted s) ∙ idle))) f c)
      (λ still. still)
      (cases_Bool (pending (row_of (session_of x s) v) f c))

  -- On a quiet caster no copy is under way.
  pub quiet_all : quiet x ≡ true → (s v f c : ℕ) → pending (row_of (session_of x s) v) f c ≡ false
  quiet_all quiet s = idle_session s (no_member _ s (eqb-true _ 0 quiet))
