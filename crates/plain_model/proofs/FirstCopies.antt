-- The first copy of a session, which is found by masks, is the next one there.
use Rattle.std.proofs.Common.{◌≡◌, ℕ, Bool, true, not, eqb, Some, None, Option, sym, refl, ap, ◌∙◌, subst, MatchOption, option_map, option_and_then}
use Rattle.std.proofs.lemmas.Bool.{eq-eqb, false≢true}
use Rattle.sets.proofs.Fronts.{first_member_is}
use Rattle.sets.specs.Members.{Lowest}
use Rattle.plain_session.specs.Rows.{pending_from}
use Rattle.plain_session.specs.Sessions.{row_of, first_from, first_of_number, first_copy}
use Rattle.plain_session.specs.declared.endorsement.Endorsement.{Endorsement}
use Rattle.plain_session.specs.declared.row.Row.{Row}
use Rattle.plain_session.specs.declared.session_table.SessionTable.{SessionTable}
use Rattle.plain_tables.specs.declared.plan.Plan.{Plan}
use Rattle.plain_model.specs.Invariant.{GoodRow, GoodSession}
use Rattle.plain_model.specs.Plans.{SoundPlan}
use Rattle.plain_model.proofs.RowWrites.{pending_fits}

-- A place that is noted has something under way.
pub busy_place : (m : ℕ) (b : Bool) → b ≡ not (eqb m 0) → b ≡ true → m ≡ 0 → ⊥
busy_place m b noted is empty = false≢true (sym (noted ∙ ap not (eq-eqb m 0 empty)) ∙ is)

-- The lowest sender of a row, and its lowest receiver.
pub record RowNext (r : Row) (s v : ℕ) (e : Endorsement) : Type 0 where
  pub session : e.session ≡ s
  pub number : e.number ≡ v
  pub sender : Lowest r.senders.places.mask e.sender
  pub receiver : Lowest (pending_from r e.sender).mask e.receiver

module _ (p : Plan) (sound : SoundPlan p) where
  module _ (r : Row) (s v : ℕ) (good : GoodRow p v r) where
    abbrev Found : Option Endorsement → Type 0
    Found o = MatchOption o (r.senders.places.mask ≡ 0) (RowNext r s v)

    abbrev copy_to : (f c : ℕ) → Endorsement
    copy_to f c = record { sender = f; receiver = c; session = s; number = v }

    to_receiver :
        (f : ℕ) (o : Option ℕ) → Lowest r.senders.places.mask f
        → MatchOption o ((pending_from r f).mask ≡ 0) (Lowest (pending_from r f).mask) → Found (option_map (copy_to f) o)
    to_receiver f None low empty = absurd (busy_place _ _ (good.senders_noted f) low.0 empty)
    to_receiver f (Some c) low lowest = record { session = refl; number = refl; sender = low; receiver = lowest }

    from_sender :
        (o : Option ℕ) → MatchOption o (r.senders.places.mask ≡ 0) (Lowest r.senders.places.mask) → Found (option_and_then (first_from r s v) o)
    from_sender None empty = empty
    from_sender (Some f) low = to_receiver f _ low (first_member_is _ (pending_fits p v r sound good f))

    -- The first copy of a number.
    row_next : Found (first_of_number r s v)
    row_next = from_sender _ (first_member_is _ good.sender_places)

  -- The lowest number of a session, and what its row has.
  pub record SessionNext (t : SessionTable) (s : ℕ) (e : Endorsement) : Type 0 where
    pub number : Lowest t.numbers.places.mask e.number
    pub row : RowNext (row_of t e.number) s e.number e

  module _ (t : SessionTable) (s : ℕ) (good : GoodSession p t) where
    of_row :
        (v : ℕ) (o : Option Endorsement) → Lowest t.numbers.places.mask v → Found (row_of t v) s v (good.steady.table.rows v) o
        → MatchOption o (t.numbers.places.mask ≡ 0) (SessionNext t s)
    of_row v None low empty = absurd (busy_place _ _ (good.steady.table.numbers_noted v) low.0 empty)
    of_row v (Some e) low next =
        record {
          number = subst (Lowest t.numbers.places.mask) (sym next.number) low;
          row = subst (λ (u : ℕ). RowNext (row_of t u) s u e) (sym next.number) next;
        }

    of_number :
        (o : Option ℕ) → MatchOption o (t.numbers.places.mask ≡ 0) (Lowest t.numbers.places.mask)
        → MatchOption (option_and_then (λ v. first_of_number (row_of t v) s v) o) (t.numbers.places.mask ≡ 0) (SessionNext t s)
    of_number None empty = empty
    of_number (Some v) low = of_row v _ low (row_next (row_of t v) s v (good.steady.table.rows v))

    -- The first copy of a session.
    pub session_next : MatchOption (first_copy t s) (t.numbers.places.mask ≡ 0) (SessionNext t s)
    session_next = of_number _ (first_member_is _ good.steady.table.number_places)
