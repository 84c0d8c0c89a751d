-- When the receiver of an endorsement has tried to deliver the number, the session is in order.
use Rattle.std.proofs.Common.{◌≡◌, ℕ, ◌<◌, ◌≤◌, true, false, set, is_some, Some, None, ap, ◌∙◌, arith}
use Rattle.std.proofs.lemmas.List.{get_or-set_same, length-set}
use Rattle.std.proofs.lemmas.Bool.{and_parts, cond_both, leb-true, le-leb}
use Rattle.plain_session.specs.Protocol.{heard_count, may_deliver, finished}
use Rattle.plain_session.specs.Sessions.{delivered_by, deliver_table}
use Rattle.plain_session.specs.declared.session_table.SessionTable.{SessionTable}
use Rattle.plain_tables.specs.declared.plan.Plan.{Plan}
use Rattle.plain_model.specs.Invariant.{GoodTable, RightDelivery, Steady, Forwards, Finishes, GoodSession}
use Rattle.plain_model.specs.Plans.{is_honest}
use Rattle.plain_model.proofs.Entries.{put_all, put_some, entry_table}
use Rattle.plain_model.proofs.Hearing.{Elsewhere, by_pair}

module _ (p : Plan) (t : SessionTable) (v c : ℕ) where
  abbrev delivering : SessionTable
  delivering = deliver_table t v c

  -- A console that heard the number often enough may deliver it.
  delivering_steady :
      Steady p t → v < p.floor.capacity → is_honest p c ≡ true → p.setting.thresholds.deliver ≤ heard_count t v c → Steady p delivering
  delivering_steady old known honest enough =
      record {
        table =
            entry_table p t t.casts (set t.deliveries c (Some v)) old.table old.table.cast_places
            (length-set t.deliveries c (Some v) ∙ old.table.delivery_places);
        votes = record {
          origin = old.votes.origin;
          once = old.votes.once;
          voters = old.votes.voters;
          voted_some = old.votes.voted_some;
        };
        cast_voted = old.cast_voted;
        delivered_heard = put_all t.deliveries c v (RightDelivery p t) (honest, known, enough) old.delivered_heard;
      }

  delivered_here : GoodTable p t → c < 32 → is_some (delivered_by delivering c) ≡ true
  delivered_here old console =
      ap is_some (get_or-set_same t.deliveries c (Some v) None (omega (arith, old.delivery_places)))

  -- Where it does not try, it heard too few or has delivered.
  unfinished : may_deliver p.setting t v c ≡ false → Finishes p t v c
  unfinished idle honest enough = let often = le-leb p.setting.thresholds.deliver (heard_count t v c) enough in grind arith

  -- After it has tried, deliveries are in order everywhere, and with them the session.
  pub finished_good :
      Steady p t → v < p.floor.capacity → is_honest p c ≡ true → c < 32 → ((u k : ℕ) → Forwards p t u k)
      → ((u k : ℕ) → Elsewhere v c u k → Finishes p t u k) → GoodSession p (finished p.setting t v c)
  finished_good old known honest console forwards finishes =
      cond_both (may_deliver p.setting t v c) delivering t (GoodSession p)
      (λ tries. record {
        steady = delivering_steady old known honest (enough tries);
        forwarding = forwards;
        heard_delivered =
            by_pair v c (Finishes p delivering) (λ _ _. delivered_here old.table console)
            (λ u k apart truly heard. put_some t.deliveries c v k (finishes u k apart truly heard));
      })
      (λ idle. record { steady = old; forwarding = forwards; heard_delivered = by_pair v c (Finishes p t) (unfinished idle) finishes })
    where
      enough : may_deliver p.setting t v c ≡ true → p.setting.thresholds.deliver ≤ heard_count t v c
      enough tries = leb-true p.setting.thresholds.deliver (heard_count t v c) (and_parts _ _ tries).0
