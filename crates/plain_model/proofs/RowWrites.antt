-- The copies of one number's endorsements stay in order when one arrives, is lost or is sent.
use Rattle.std.proofs.Common.{◌≡◌, ℕ, ◌^◌, ◌<◌, ◌≤◌, true, false, cond, not, ◌&&◌, ◌||◌, eqb, arith}
use lib.Count.{ones}
use Rattle.std.proofs.lemmas.Bool.Decides.{nat_tests}
use Rattle.sets.proofs.Bits.{lt_from_within}
use Rattle.sets.proofs.Operations.{ones_with_le}
use Rattle.sets.specs.Members.{has, empty_set}
use Rattle.sets.specs.declared.console_set.ConsoleSet.{ConsoleSet}
use Rattle.plain_session.specs.Rows.{pending_from, lost_from, hear_row, settle_row, lose_row, endorse_row}
use Rattle.plain_session.specs.declared.row.Row.{Row}
use Rattle.plain_tables.specs.declared.plan.Plan.{Plan}
use Rattle.plain_model.specs.Invariant.{RowSized, GoodRow}
use Rattle.plain_model.specs.Plans.{SoundPlan, is_honest}
use Rattle.plain_model.specs.Views.{endorsed, heard, pending, lost}
use Rattle.plain_model.proofs.AfterWrites.{by_place, noted_fits, told_after}
use Rattle.plain_model.proofs.HonestSet.{honest_below, honest_console}
use Rattle.plain_model.proofs.RowViews.{heard_hear, lost_lose, pending_settle, senders_send, with_endorser, endorser_sized, settle_sized}
use Rattle.plain_model.proofs.RowViews.{lose_sized}
use Rattle.plain_model.proofs.SetFacts.{joining}

-- Copies go to honest consoles, so below 32.
pub pending_fits : (p : Plan) (v : ℕ) (r : Row) → SoundPlan p → GoodRow p v r → (f : ℕ) → (pending_from r f).mask < 2 ^ 32
pending_fits p v r sound good f =
    lt_from_within 32 (pending_from r f).mask (λ c e. honest_console p c sound (good.pending_sent f c e).1)

module _ (p : Plan) (v : ℕ) (r : Row) (sound : SoundPlan p) (sized : RowSized r) (good : GoodRow p v r) where
  -- A copy from a Byzantine console arrives: it endorsed nothing and has nothing under way, so no other entry is about it.
  pub inject_row_good :
      (f c : ℕ) → f < p.floor.consoles → is_honest p f ≡ false → is_honest p c ≡ true → GoodRow p v (hear_row r f c)
  inject_row_good f c sender byzantine receiver =
      record {
        endorsers = good.endorsers;
        heard_within = λ g k e. let now = known g k in let old = good.heard_within g k in grind (arith, nat_tests);
        heard_sent = λ g k honest e. let now = known g k in let old = good.heard_sent g k in grind (arith, nat_tests);
        pending_sent = good.pending_sent;
        lost_sent = good.lost_sent;
        pending_only = λ g k e.
            let now = known g k in let old = good.pending_only g k e in let sent = (good.pending_sent g k e).0 in
            let whose = (good.endorsers g sent).0 in (grind (arith, nat_tests), old.1);
        arrived = λ g k e honest still kept.
            let now = known g k in let old = good.arrived g k e honest still kept in grind arith;
        few_lost = good.few_lost;
        sender_places = good.sender_places;
        senders_noted = good.senders_noted;
      }
    where
      known : (g k : ℕ) → heard (hear_row r f c) g k ≡ (heard r g k || (eqb k c && eqb g f))
      known = heard_hear r sized f c (omega (arith, sender, sound.few_consoles)) (honest_console p c sound receiver)

  -- A copy that is under way is handed over: it leaves the copies under way and has arrived.
  pub hand_row_good :
      (f c : ℕ) → is_honest p f ≡ true → is_honest p c ≡ true → pending r f c ≡ true
      → GoodRow p v (hear_row (settle_row r f c) f c)
  hand_row_good f c sender receiver waiting =
      record {
        endorsers = good.endorsers;
        heard_within = λ g k e.
            let now = arrives g k in let old = good.heard_within g k in let new = below in grind (arith, nat_tests);
        heard_sent = λ g k honest e.
            let now = arrives g k in let old = good.heard_sent g k honest in let new = sent in grind (arith, nat_tests);
        pending_sent = λ g k e. let now = leaves g k in good.pending_sent g k (grind arith);
        lost_sent = good.lost_sent;
        pending_only = λ g k e.
            let was = leaves g k in let now = arrives g k in let old = good.pending_only g k (grind arith) in
            (grind (arith, nat_tests), old.1);
        arrived = λ g k e honest still kept.
            let was = leaves g k in let now = arrives g k in let old = good.arrived g k e honest in grind (arith, nat_tests);
        few_lost = good.few_lost;
        sender_places = noted_fits r.senders f _ from good.sender_places;
        senders_noted = senders_send r f _ sized from good.sender_places good.senders_noted;
      }
    where
      from : f < 32
      from = honest_console p f sound sender

      below : f < p.floor.consoles
      below = honest_below p f sound sender

      sent : endorsed r f ≡ true
      sent = (good.pending_sent f c waiting).0

      arrives : (g k : ℕ) → heard (hear_row (settle_row r f c) f c) g k ≡ (heard r g k || (eqb k c && eqb g f))
      arrives = heard_hear (settle_row r f c) (settle_sized r sized f c) f c from (honest_console p c sound receiver)

      leaves : (g k : ℕ) → pending (settle_row r f c) g k ≡ (pending r g k && not (eqb g f && eqb k c))
      leaves = pending_settle r sized f c from (pending_fits p v r sound good f)

  -- A copy that is under way is lost, while its sender has losses left.
  pub lose_row_good :
      (f c : ℕ) → is_honest p f ≡ true → is_honest p c ≡ true → pending r f c ≡ true
      → ones (lost_from r f).mask < p.floor.lost → GoodRow p v (settle_row (lose_row r f c) f c)
  lose_row_good f c sender receiver waiting few =
      record {
        endorsers = good.endorsers;
        heard_within = good.heard_within;
        heard_sent = good.heard_sent;
        pending_sent = λ g k e. let now = leaves g k in good.pending_sent g k (grind arith);
        lost_sent = λ g k e.
            let now = missing g k in let old = good.lost_sent g k in let new = sent in (grind (arith, nat_tests), grind (arith, nat_tests));
        pending_only = λ g k e.
            let was = leaves g k in let now = missing g k in let old = good.pending_only g k (grind arith) in
            (old.0, grind (arith, nat_tests));
        arrived = λ g k e honest still kept.
            let was = leaves g k in let now = missing g k in good.arrived g k e honest (grind arith) (grind arith);
        few_lost =
            by_place (λ g s. ones s.mask ≤ p.floor.lost) r.lost f _ empty_set
            (omega (arith, few, ones_with_le (lost_from r f).mask c)) good.few_lost;
        sender_places = noted_fits r.senders f _ from good.sender_places;
        senders_noted = senders_send (lose_row r f c) f _ (lose_sized r sized f c) from good.sender_places good.senders_noted;
      }
    where
      from : f < 32
      from = honest_console p f sound sender

      sent : endorsed r f ≡ true
      sent = (good.pending_sent f c waiting).0

      missing : (g k : ℕ) → lost (settle_row (lose_row r f c) f c) g k ≡ (lost r g k || (eqb g f && eqb k c))
      missing = lost_lose r sized f c from (honest_console p c sound receiver)

      leaves : (g k : ℕ) → pending (settle_row (lose_row r f c) f c) g k ≡ (pending r g k && not (eqb g f && eqb k c))
      leaves = pending_settle (lose_row r f c) (lose_sized r sized f c) f c from (pending_fits p v r sound good f)

  -- A console endorses the number: nothing of its own was under way, and now a copy to each honest console is.
  pub endorse_row_good :
      (c : ℕ) → is_honest p c ≡ true → v < p.floor.capacity → endorsed r c ≡ false
      → GoodRow p v (endorse_row r c p.setting.honest)
  endorse_row_good c honest range fresh =
      record {
        endorsers = λ k e. let now = joins k in let old = good.endorsers k in (grind (arith, nat_tests), range);
        heard_within = good.heard_within;
        heard_sent = λ g k from e. let now = joins g in let old = good.heard_sent g k from e in grind arith;
        pending_sent = λ g k e.
            let now = joins g in let copies = sends g k in let old = good.pending_sent g k in
            (grind (arith, nat_tests), grind (arith, nat_tests));
        lost_sent = λ g k e. let now = joins g in let old = good.lost_sent g k e in (grind arith, old.1);
        pending_only = λ g k e.
            let copies = sends g k in let old = good.pending_only g k in let sent = good.lost_sent g k in
            let told = good.heard_sent g k in
            (grind (arith, nat_tests), grind (arith, nat_tests));
        arrived = λ g k e to still kept.
            let now = joins g in let copies = sends g k in let old = good.arrived g k in grind (arith, nat_tests);
        few_lost = good.few_lost;
        sender_places = noted_fits r.senders c _ known good.sender_places;
        senders_noted = senders_send (with_endorser r c) c _ (endorser_sized r sized c) known good.sender_places good.senders_noted;
      }
    where
      known : c < 32
      known = honest_console p c sound honest

      joins : (k : ℕ) → endorsed (endorse_row r c p.setting.honest) k ≡ (endorsed r k || eqb k c)
      joins k = joining r.endorsed.mask c k known

      sends : (g k : ℕ) → pending (endorse_row r c p.setting.honest) g k ≡ cond (eqb g c) (is_honest p k) (pending r g k)
      sends g k =
          told_after (λ (s : ConsoleSet). has s.mask k) r.pending c g p.setting.honest empty_set
          (omega (arith, known, sized.pending_places))
