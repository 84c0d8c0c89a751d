-- A row in which nothing has happened is in order.
use Rattle.std.proofs.Common.{◌≡◌, ℕ, false, not, eqb, get_or, replicate, sym, refl, ap, ◌∙◌, subst, ⊎_elim, arith}
use lib.Count.{ones}
use Rattle.std.proofs.lemmas.List.{get_or_past, get_or-replicate, length-replicate}
use Rattle.std.proofs.lemmas.Bool.{both_ways, cases_lt}
use Rattle.sets.proofs.Sizes.{ones_zero}
use Rattle.sets.specs.Members.{has, empty_set}
use Rattle.sets.specs.declared.console_set.ConsoleSet.{ConsoleSet}
use Rattle.plain_session.specs.Agendas.{nothing}
use Rattle.plain_session.specs.Rows.{empty_row, heard_by, pending_from, lost_from}
use Rattle.plain_session.specs.Sessions.{empty_session, silent_row, row_of}
use Rattle.plain_session.specs.declared.agenda.Agenda.{Agenda}
use Rattle.plain_session.specs.declared.row.Row.{Row}
use Rattle.plain_tables.specs.declared.plan.Plan.{Plan}
use Rattle.plain_model.specs.Invariant.{GoodRow}
use Rattle.plain_model.specs.Views.{endorsed, heard, pending, lost}
use Rattle.plain_model.proofs.SetFacts.{no_member}

-- No set of the row has a member.
pub record Still (r : Row) : Type 0 where
  pub unendorsed : r.endorsed ≡ empty_set
  pub unheard : (c : ℕ) → heard_by r c ≡ empty_set
  pub unsent : (f : ℕ) → pending_from r f ≡ empty_set
  pub unlost : (f : ℕ) → lost_from r f ≡ empty_set
  pub idle : r.senders ≡ nothing

-- A table of one value reads as that value everywhere.
pub all_alike : {A : Type 0} (n : ℕ) (x : A) (k : ℕ) → get_or (replicate n x) k x ≡ x
all_alike n x k = ⊎_elim
    (λ here. get_or-replicate n k x x here)
    (λ past. get_or_past (replicate n x) k x (omega (arith, length-replicate n x)))
    (cases_lt k n)

-- So it is in a new row, and in one that no table has.
pub empty_row_still : Still empty_row
empty_row_still =
    record {
      unendorsed = refl;
      unheard = all_alike 32 empty_set;
      unsent = all_alike 32 empty_set;
      unlost = all_alike 32 empty_set;
      idle = refl;
    }

silent_row_still : Still silent_row
silent_row_still = record { unendorsed = refl; unheard = λ _. refl; unsent = λ _. refl; unlost = λ _. refl; idle = refl }

none_of : (s : ConsoleSet) → s ≡ empty_set → (k : ℕ) → has s.mask k ≡ false
none_of s e k = no_member s.mask k (ap (λ (t : ConsoleSet). t.mask) e)

module _ (r : Row) (still : Still r) where
  pub none_endorsed : (c : ℕ) → endorsed r c ≡ false
  none_endorsed = none_of _ still.unendorsed

  none_heard : (f c : ℕ) → heard r f c ≡ false
  none_heard f c = none_of _ (still.unheard c) f

  pub none_pending : (f c : ℕ) → pending r f c ≡ false
  none_pending f c = none_of _ (still.unsent f) c

  none_lost : (f c : ℕ) → lost r f c ≡ false
  none_lost f c = none_of _ (still.unlost f) c

  -- Where no set has a member, nothing is asked.
  pub still_row_good : (p : Plan) (v : ℕ) → GoodRow p v r
  still_row_good p v =
      record {
        endorsers = λ c e. absurd (both_ways (endorsed r c) (none_endorsed c) e);
        heard_within = λ f c e. absurd (both_ways (heard r f c) (none_heard f c) e);
        heard_sent = λ f c _ e. absurd (both_ways (heard r f c) (none_heard f c) e);
        pending_sent = λ f c e. absurd (both_ways (pending r f c) (none_pending f c) e);
        lost_sent = λ f c e. absurd (both_ways (lost r f c) (none_lost f c) e);
        pending_only = λ f c e. absurd (both_ways (pending r f c) (none_pending f c) e);
        arrived = λ f c e _ _ _. absurd (both_ways (endorsed r f) (none_endorsed f) e);
        few_lost = λ f. omega (arith, ap (λ (s : ConsoleSet). ones s.mask) (still.unlost f), ones_zero);
        sender_places = omega (arith, ap (λ (a : Agenda). a.places.mask) still.idle);
        senders_noted = λ f.
            no_member r.senders.places.mask f (ap (λ (a : Agenda). a.places.mask) still.idle)
            ∙ ap (λ (s : ConsoleSet). not (eqb s.mask 0)) (sym (still.unsent f));
      }

-- So are all rows of a session in which nothing has happened.
pub still_rows : (v : ℕ) → Still (row_of empty_session v)
still_rows v = ⊎_elim
    (λ here. subst Still (sym (get_or-replicate 8 v empty_row silent_row here)) empty_row_still)
    (λ past. subst Still (sym (get_or_past (replicate 8 empty_row) v silent_row past)) silent_row_still)
    (cases_lt v 8)
