-- A session in which nothing has happened is in order, and a lost copy leaves a session so.
use Rattle.std.proofs.Common.{◌≡◌, ℕ, ◌<◌, ◌≤◌, true, not, eqb, get_or, replicate, Some, None, sym, refl, ap, ◌∙◌, subst, arith}
use lib.Count.{ones}
use Rattle.std.proofs.lemmas.List.{get_or-replicate}
use Rattle.std.proofs.lemmas.Bool.{both_ways}
use Rattle.sets.proofs.Bits.{has_zero}
use Rattle.sets.proofs.Sizes.{ones_zero}
use Rattle.sets.specs.declared.console_set.ConsoleSet.{ConsoleSet}
use Rattle.plain_session.specs.Agendas.{noted}
use Rattle.plain_session.specs.Protocol.{heard_count, lost_copy}
use Rattle.plain_session.specs.Rows.{empty_row, heard_by, lost_from, busy_row, settle_row, lose_row}
use Rattle.plain_session.specs.Sessions.{empty_session, silent_row, row_of}
use Rattle.plain_session.specs.declared.agenda.Agenda.{Agenda}
use Rattle.plain_session.specs.declared.session_table.SessionTable.{SessionTable}
use Rattle.plain_tables.specs.declared.plan.Plan.{Plan}
use Rattle.plain_model.specs.Invariant.{RowSized, GoodSession}
use Rattle.plain_model.specs.Plans.{SoundPlan, is_honest}
use Rattle.plain_model.specs.Views.{endorsed, pending}
use Rattle.std.proofs.lemmas.Option.{none-some}
use Rattle.plain_model.proofs.PutRow.{counts_same, with_row_noted}
use Rattle.plain_model.proofs.RowViews.{empty_row_sized, lose_sized, settle_sized}
use Rattle.plain_model.proofs.RowWrites.{lose_row_good}
use Rattle.plain_model.proofs.SameEndorsers.{same_steady, same_forwards, same_finishes}
use Rattle.plain_model.proofs.SameRow.{lost_and_settled}
use Rattle.plain_model.proofs.StillRows.{all_alike, none_endorsed, still_row_good, still_rows}

-- ---- a session in which nothing has happened

nobody_endorsed : (v c : ℕ) → endorsed (row_of empty_session v) c ≡ true → ⊥
nobody_endorsed v c = both_ways _ (none_endorsed (row_of empty_session v) (still_rows v) c)

nothing_heard : (v c : ℕ) → heard_count empty_session v c ≡ 0
nothing_heard v c = ap (λ (s : ConsoleSet). ones s.mask) ((still_rows v).unheard c) ∙ ones_zero

nothing_done : (c v : ℕ) → get_or (replicate 32 None) c None ≡ Some v → ⊥
nothing_done c v some = none-some v (sym (all_alike 32 None c) ∙ some)

-- The thresholds are at least 1, so nobody should have forwarded or delivered.
pub empty_session_good : (p : Plan) → SoundPlan p → GoodSession p empty_session
empty_session_good p sound =
    record {
      steady = record {
        table = record {
          row_places = refl;
          cast_places = refl;
          delivery_places = refl;
          rows_sized = λ v here. subst RowSized (sym (get_or-replicate 8 v empty_row silent_row here)) empty_row_sized;
          rows = λ v. still_row_good (row_of empty_session v) (still_rows v) p v;
          number_places = omega arith;
          numbers_noted = λ v. has_zero v ∙ ap (λ (a : Agenda). not (eqb a.places.mask 0)) (sym (still_rows v).idle);
        };
        votes = record {
          origin = λ v c e. absurd (nobody_endorsed v c e);
          once = λ _ u v c e _. absurd (nobody_endorsed u c e);
          voters = λ v c e. absurd (nobody_endorsed v c e);
          voted_some = λ c e. absurd (both_ways _ (has_zero c) e);
        };
        cast_voted = λ c v e. absurd (nothing_done c v e);
        delivered_heard = λ c v e. absurd (nothing_done c v e);
      };
      forwarding = λ v c _ enough. absurd (omega (arith, nothing_heard v c, sound.rules.witnessed));
      heard_delivered = λ v c _ enough. absurd (omega (arith, nothing_heard v c, sound.rules.witnessed, sound.rules.ordered));
    }

-- ---- a lost copy

-- A copy under way whose sender has losses left may be lost: endorsers and arrived copies stay.
pub lost_copy_good :
    (p : Plan) (t : SessionTable) (v f c : ℕ) → SoundPlan p → GoodSession p t → v < p.floor.capacity → is_honest p f ≡ true
    → is_honest p c ≡ true → pending (row_of t v) f c ≡ true → ones (lost_from (row_of t v) f).mask < p.floor.lost
    → GoodSession p (lost_copy t v f c)
lost_copy_good p t v f c sound good range sender receiver waiting few =
    let known : v < 8 = omega (arith, range, sound.few_numbers) in
    let r = row_of t v in
    let new = settle_row (lose_row r f c) f c in
    let agenda = noted t.numbers v (busy_row new) in
    let table = good.steady.table in
    let sized = table.rows_sized v known in
    let more : (k : ℕ) → ones (heard_by r k).mask ≤ ones (heard_by new k).mask = λ k. omega arith in
    let count = counts_same t v new t.voters agenda refl in
    subst (GoodSession p) (sym (lost_and_settled t v f c (omega (arith, known, table.row_places))))
    (record {
      steady =
          same_steady p t v new agenda refl more good.steady (settle_sized (lose_row r f c) (lose_sized r sized f c) f c)
          (lose_row_good p v r sound sized (table.rows v) f c sender receiver waiting few)
          (with_row_noted p t v new t.voters table known);
      forwarding = λ u k. same_forwards p t v new agenda refl more u k (count u k) (good.forwarding u k);
      heard_delivered = λ u k. same_finishes p t v new agenda refl more u k (count u k) (good.heard_delivered u k);
    })
