-- When a receiver hears more of a number, what the others heard of it and what all heard of other numbers stays.
use Rattle.std.proofs.Common.{◌≡◌, ℕ, ◌≤◌, List, get_or, set, sym, refl, ap, subst, ⊎_elim, arith}
use lib.Count.{ones}
use Rattle.std.proofs.lemmas.List.{get_or-set_other}
use Rattle.std.proofs.lemmas.Bool.{cases_eq}
use Rattle.sets.specs.Members.{with_console, empty_set}
use Rattle.sets.specs.declared.console_set.ConsoleSet.{ConsoleSet}
use Rattle.plain_session.specs.Protocol.{heard_count}
use Rattle.plain_session.specs.Rows.{heard_by}
use Rattle.plain_session.specs.Sessions.{row_of}
use Rattle.plain_session.specs.declared.agenda.Agenda.{Agenda}
use Rattle.plain_session.specs.declared.row.Row.{Row}
use Rattle.plain_session.specs.declared.session_table.SessionTable.{SessionTable}
use Rattle.plain_model.proofs.AfterWrites.{by_place}
use Rattle.plain_model.proofs.PutRow.{put_row, row_by_row}
use Rattle.plain_model.proofs.SetFacts.{joined_more}

-- ---- the sets of those heard

-- The receiver has heard as many as before or more, and each other console the same.
pub record Grown (receiver : ℕ) (before after : List ConsoleSet) : Type 0 where
  pub more : (k : ℕ) → ones (get_or before k empty_set).mask ≤ ones (get_or after k empty_set).mask
  pub others : (k : ℕ) → (k ≡ receiver → ⊥) → get_or after k empty_set ≡ get_or before k empty_set

-- So it is when f's endorsement reaches c.
pub hearing_grows :
    (heard : List ConsoleSet) (f c : ℕ) → Grown c heard (set heard c (with_console (get_or heard c empty_set) f))
hearing_grows heard f c =
    record {
      more =
          by_place (λ k s. ones (get_or heard k empty_set).mask ≤ ones s.mask) heard c (with_console (get_or heard c empty_set) f) empty_set
          (joined_more (get_or heard c empty_set).mask f) (λ k. omega arith);
      others = λ k other. get_or-set_other heard c k (with_console (get_or heard c empty_set) f) empty_set other;
    }

-- ---- one number and one receiver

-- The number and the console are not these two.
abbrev pub Elsewhere : (v c u k : ℕ) → Type 0
Elsewhere v c u k = (u ≡ v) × (k ≡ c) → ⊥

-- What holds of these two and of all others holds of all.
pub by_pair :
    (v c : ℕ) (P : ℕ → ℕ → Type 0) → P v c → ((u k : ℕ) → Elsewhere v c u k → P u k) → (u k : ℕ) → P u k
by_pair v c P here elsewhere u k =
    ⊎_elim
    (λ number. ⊎_elim
    (λ console. subst (λ (x : ℕ). P x k) (sym number) (subst (P v) (sym console) here))
    (λ other. elsewhere u k (λ e. other e.1))
    (cases_eq k c))
    (λ other. elsewhere u k (λ e. other e.0))
    (cases_eq u v)

-- Elsewhere the counts stay.
pub counts_elsewhere :
    (t : SessionTable) (v c : ℕ) (r : Row) (a : Agenda) → Grown c (row_of t v).heard r.heard
    → (u k : ℕ) → Elsewhere v c u k → heard_count (put_row t v r t.voters a) u k ≡ heard_count t u k
counts_elsewhere t v c r a grown =
    row_by_row (λ u old new. (k : ℕ) → Elsewhere v c u k → ones (heard_by new k).mask ≡ ones (heard_by old k).mask) t v r
    t.voters a (λ k apart. ap (λ s. ones s.mask) (grown.others k (λ e. apart (refl, e)))) (λ u k _. refl)
