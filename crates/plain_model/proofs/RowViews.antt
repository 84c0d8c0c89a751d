-- What the writes to a row change in what it says, console by console.
use Rattle.std.proofs.Common.{◌≡◌, ℕ, ◌^◌, ◌<◌, Bool, true, false, cond, not, ◌&&◌, ◌||◌, eqb, List, length, get_or, set, sym, refl, ap, ◌∙◌, arith}
use Rattle.std.proofs.lemmas.List.{length-set}
use Rattle.std.proofs.lemmas.Bool.{eqb-true}
use Rattle.sets.proofs.Operations.{has_without_member}
use Rattle.sets.specs.Members.{has, empty_set, with_console}
use Rattle.sets.specs.declared.console_set.ConsoleSet.{ConsoleSet}
use Rattle.plain_session.specs.Rows.{empty_row, heard_by, pending_from, lost_from, hear_row, send_row, settle_row, lose_row, endorse_row}
use Rattle.plain_session.specs.declared.row.Row.{Row}
use Rattle.plain_model.specs.Invariant.{RowSized}
use Rattle.plain_model.specs.Views.{heard, pending, lost}
use Rattle.plain_model.proofs.AfterWrites.{entry_after, noted_after}
use Rattle.plain_model.proofs.SetFacts.{joining}

-- One member of one set of a table is changed, and the rest stays: `change b true` is what becomes of b there.
module _ (xs : List ConsoleSet) (i m : ℕ) (y : ConsoleSet) (change : Bool → Bool → Bool) where
  changed_one :
      i < length xs → ((b : Bool) → change b false ≡ b)
      → ((j : ℕ) → has y.mask j ≡ change (has (get_or xs i empty_set).mask j) (eqb j m))
      → (k j : ℕ) → has (get_or (set xs i y) k empty_set).mask j ≡ change (has (get_or xs k empty_set).mask j) (eqb k i && eqb j m)
  changed_one here keeps new k j = ap (λ (s : ConsoleSet). has s.mask j) (entry_after xs i k y empty_set here) ∙ at (eqb k i) refl
    where
      at :
          (b : Bool) → eqb k i ≡ b
          → has (cond b y (get_or xs k empty_set)).mask j ≡ change (has (get_or xs k empty_set).mask j) (b && eqb j m)
      at true e = rw (eqb-true k i e) (new j)
      at false e = sym (keeps (has (get_or xs k empty_set).mask j))

-- ---- which copies have arrived, are lost and are under way, after one more has or is

module _ (r : Row) (sized : RowSized r) (f c : ℕ) (sender : f < 32) (receiver : c < 32) where
  pub heard_hear : (g k : ℕ) → heard (hear_row r f c) g k ≡ (heard r g k || (eqb k c && eqb g f))
  heard_hear g k =
      changed_one r.heard c f _ ◌||◌ (omega (arith, sized.heard_places)) (λ b. grind arith)
      (λ j. joining (heard_by r c).mask f j sender) k g

  pub lost_lose : (g k : ℕ) → lost (lose_row r f c) g k ≡ (lost r g k || (eqb g f && eqb k c))
  lost_lose g k =
      changed_one r.lost f c _ ◌||◌ (omega (arith, sized.lost_places)) (λ b. grind arith)
      (λ j. joining (lost_from r f).mask c j receiver) g k

-- The copy is no longer under way.
pub pending_settle :
    (r : Row) → RowSized r → (f c : ℕ) → f < 32 → (pending_from r f).mask < 2 ^ 32
    → (g k : ℕ) → pending (settle_row r f c) g k ≡ (pending r g k && not (eqb g f && eqb k c))
pending_settle r sized f c sender fits g k =
    changed_one r.pending f c _ (λ a b. a && not b) (omega (arith, sized.pending_places)) (λ b. grind arith)
    (λ j. has_without_member (pending_from r f).mask c j fits) g k

-- The senders with copies under way stay noted.
pub senders_send :
    (r : Row) (f : ℕ) (receivers : ConsoleSet) → RowSized r → f < 32 → r.senders.places.mask < 2 ^ 32
    → ((g : ℕ) → has r.senders.places.mask g ≡ not (eqb (pending_from r g).mask 0))
    → (g : ℕ) → has (send_row r f receivers).senders.places.mask g ≡ not (eqb (pending_from (send_row r f receivers) g).mask 0)
senders_send r f receivers sized sender fits old =
    noted_after (λ (s : ConsoleSet). not (eqb s.mask 0)) r.senders r.pending f receivers empty_set
    (omega (arith, sized.pending_places)) sender fits old

-- A row whose endorsers are one more; an endorsement then sends the copies.
abbrev pub with_endorser : Row → (console : ℕ) → Row
with_endorser r console =
    record {
      endorsed = with_console r.endorsed console;
      heard = r.heard;
      pending = r.pending;
      lost = r.lost;
      senders = r.senders;
    }

-- ---- the tables keep their places

pub empty_row_sized : RowSized empty_row
empty_row_sized = record { heard_places = refl; pending_places = refl; lost_places = refl }

module _ (r : Row) (sized : RowSized r) where
  pub hear_sized : (f c : ℕ) → RowSized (hear_row r f c)
  hear_sized f c =
      record {
        heard_places = length-set r.heard c _ ∙ sized.heard_places;
        pending_places = sized.pending_places;
        lost_places = sized.lost_places;
      }

  send_sized : (f : ℕ) (receivers : ConsoleSet) → RowSized (send_row r f receivers)
  send_sized f receivers =
      record {
        heard_places = sized.heard_places;
        pending_places = length-set r.pending f receivers ∙ sized.pending_places;
        lost_places = sized.lost_places;
      }

  pub settle_sized : (f c : ℕ) → RowSized (settle_row r f c)
  settle_sized f c = send_sized f _

  pub lose_sized : (f c : ℕ) → RowSized (lose_row r f c)
  lose_sized f c =
      record {
        heard_places = sized.heard_places;
        pending_places = sized.pending_places;
        lost_places = length-set r.lost f _ ∙ sized.lost_places;
      }

  pub endorser_sized : (c : ℕ) → RowSized (with_endorser r c)
  endorser_sized c =
      record {
        heard_places = sized.heard_places;
        pending_places = sized.pending_places;
        lost_places = sized.lost_places;
      }

pub endorse_sized : (r : Row) → RowSized r → (c : ℕ) (honest : ConsoleSet) → RowSized (endorse_row r c honest)
endorse_sized r sized c honest = send_sized (with_endorser r c) (endorser_sized r sized c) c honest
