-- What is in order in a session stays so when a row is replaced by one with the same endorsers, where no console has heard less.
use Rattle.std.proofs.Common.{◌≡◌, ℕ, ◌≤◌, true, sym, refl, subst, inl, inr, ⊎_elim, arith}
use lib.Count.{ones}
use Rattle.sets.specs.Members.{has}
use Rattle.sets.specs.declared.console_set.ConsoleSet.{ConsoleSet}
use Rattle.plain_session.specs.Protocol.{heard_count}
use Rattle.plain_session.specs.Rows.{heard_by}
use Rattle.plain_session.specs.Sessions.{row_of}
use Rattle.plain_session.specs.declared.agenda.Agenda.{Agenda}
use Rattle.plain_session.specs.declared.row.Row.{Row}
use Rattle.plain_session.specs.declared.session_table.SessionTable.{SessionTable}
use Rattle.plain_tables.specs.declared.plan.Plan.{Plan}
use Rattle.plain_model.specs.Invariant.{RowSized, GoodRow, Steady, Forwards, Finishes}
use Rattle.plain_model.specs.Views.{endorsed}
use Rattle.plain_model.proofs.PutRow.{put_row, row_by_row, put_table, Noted}

module _ (p : Plan) (t : SessionTable) (v : ℕ) (r : Row) (a : Agenda) (endorsers : r.endorsed ≡ (row_of t v).endorsed)
    (more : (k : ℕ) → ones (heard_by (row_of t v) k).mask ≤ ones (heard_by r k).mask) where
  abbrev after : SessionTable
  after = put_row t v r t.voters a

  -- The endorsers of each number are those from before,
  same_endorsers : (u : ℕ) → (row_of after u).endorsed ≡ (row_of t u).endorsed
  same_endorsers = row_by_row (λ u old new. new.endorsed ≡ old.endorsed) t v r t.voters a endorsers (λ u. refl)

  was : (u k : ℕ) → endorsed (row_of after u) k ≡ true → endorsed (row_of t u) k ≡ true
  was u k e = subst (λ (s : ConsoleSet). has s.mask k ≡ true) (same_endorsers u) e

  stays : (u k : ℕ) → endorsed (row_of t u) k ≡ true → endorsed (row_of after u) k ≡ true
  stays u k e = subst (λ (s : ConsoleSet). has s.mask k ≡ true) (sym (same_endorsers u)) e

  -- and nobody has heard any number from fewer.
  counts_grow : (u k : ℕ) → heard_count t u k ≤ heard_count after u k
  counts_grow =
      row_by_row (λ u old new. (k : ℕ) → ones (heard_by old k).mask ≤ ones (heard_by new k).mask) t v r t.voters a
      more (λ u k. omega arith)

  -- What rests on endorsers only stays, and who delivered has heard no less.
  pub same_steady :
      Steady p t → RowSized r → GoodRow p v r → Noted (put_row t v r t.voters a) → Steady p (put_row t v r t.voters a)
  same_steady old sized good noted =
      record {
        table = put_table p t v r t.voters a old.table sized good noted;
        votes = record {
          origin = λ u k e. old.votes.origin u k (was u k e);
          once = λ single u w k d e. old.votes.once single u w k (was u k d) (was w k e);
          voters = λ u k e. old.votes.voters u k (was u k e);
          voted_some = λ k e. let some = old.votes.voted_some k e in (some.0, stays some.0 k some.1);
        };
        cast_voted = old.cast_voted;
        delivered_heard = λ k u e. let told = old.delivered_heard k u e in (told.0, told.1, omega (arith, told.2, counts_grow u k));
      }

  -- Where the count is the same, nothing more is asked.
  module _ (u k : ℕ) (same : heard_count (put_row t v r t.voters a) u k ≡ heard_count t u k) where
    pub same_forwards : Forwards p t u k → Forwards p (put_row t v r t.voters a) u k
    same_forwards old honest enough = ⊎_elim (λ e. inl (stays u k e)) inr (old honest (omega (arith, same)))

    pub same_finishes : Finishes p t u k → Finishes p (put_row t v r t.voters a) u k
    same_finishes old honest enough = old honest (omega (arith, same))
