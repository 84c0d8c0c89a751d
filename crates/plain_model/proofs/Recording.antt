-- What changes in one session changes what the caster means there, and nowhere else.
use Rattle.std.proofs.Common.{◌≡◌, ℕ, ◌<◌, Bool, true, false, cond, ◌&&◌, eqb, length, get_or, set, Some, None, Option, sym, refl, ap, ◌∙◌, arith}
use Rattle.std.proofs.lemmas.Bool.{cond_both, eqb-true}
use Rattle.caster.specs.Laws.{Adds}
use Rattle.caster.specs.Meanings.{put}
use Rattle.caster.specs.declared.delivery.Delivery.{Delivery}
use Rattle.plain_session.specs.Protocol.{received, delivers}
use Rattle.plain_session.specs.Sessions.{cast_by, delivered_by}
use Rattle.plain_session.specs.declared.endorsement.Endorsement.{Endorsement}
use Rattle.plain_session.specs.declared.session_table.SessionTable.{SessionTable}
use Rattle.plain_session.specs.Places.{delivery_if, receiving}
use Rattle.plain_tables.specs.Tables.{silent_session, session_of, with_session}
use Rattle.plain_tables.specs.declared.plan.Plan.{Plan}
use Rattle.plain_tables.specs.declared.tables.Tables.{Tables}
use Rattle.plain_model.specs.Invariant.{Good}
use Rattle.plain_model.proofs.AfterWrites.{by_place, entry_after, told_after}
use Rattle.plain_model.proofs.OneSession.{session_good, session_room}
use Rattle.plain_model.proofs.SessionMoves.{received_casts, received_deliveries, delivers_first}

module _ (x : Tables) (s : ℕ) (t : SessionTable) where
  -- Where the session shows what it showed, all sessions do.
  unchanged :
      (F : SessionTable → Option ℕ) → F t ≡ F (session_of x s) → (k : ℕ) → F (session_of (with_session x s t) k) ≡ F (session_of x k)
  unchanged F same = by_place (λ k u. F u ≡ F (session_of x k)) x.sessions s t silent_session same (λ k. refl)

  pub casts_kept :
      t.casts ≡ (session_of x s).casts → (k l : ℕ) → cast_by (session_of (with_session x s t) l) k ≡ cast_by (session_of x l) k
  casts_kept same k = unchanged (λ u. cast_by u k) (ap (λ l. get_or l k None) same)

  pub none_added :
      t.deliveries ≡ (session_of x s).deliveries
      → (k l : ℕ) → delivered_by (session_of (with_session x s t) l) k ≡ delivered_by (session_of x l) k
  none_added same k = unchanged (λ u. delivered_by u k) (ap (λ l. get_or l k None) same)

  -- One console shows a new number.
  pub put_there :
      (p : Plan) → Good p x → s < p.floor.sessions
      → (F : ℕ → SessionTable → Option ℕ) (c v : ℕ) → ((k : ℕ) → F k t ≡ cond (eqb k c) (Some v) (F k (session_of x s)))
      → (k l : ℕ) → F k (session_of (with_session x s t) l) ≡ put (λ c s. F c (session_of x s)) c s v k l
  put_there p good below F c v new k l =
      told_after (F k) x.sessions s l t silent_session (session_room p x good s below) ∙ at (eqb k c) (eqb l s) (new k) refl
    where
      at :
          (console session : Bool) → F k t ≡ cond console (Some v) (F k (session_of x s)) → eqb l s ≡ session
          → cond session (F k t) (F k (session_of x l)) ≡ cond (console && session) (Some v) (F k (session_of x l))
      at true true is _ = is
      at true false is _ = refl
      at false true is here = is ∙ ap (λ (j : ℕ). F k (session_of x j)) (sym (eqb-true l s here))
      at false false is _ = refl

-- What an arriving endorsement adds, from the session in which it arrives.
module _ (p : Plan) (x : Tables) (good : Good p x) (e : Endorsement) (u : SessionTable)
    (same_casts : u.casts ≡ (session_of x e.session).casts) (same_deliveries : u.deliveries ≡ (session_of x e.session).deliveries)
    (below : e.session < p.floor.sessions) (to : e.receiver < 32) where
  abbrev before : SessionTable
  before = session_of x e.session

  abbrev after : SessionTable
  after = received p.setting u e.number e.sender e.receiver

  abbrev answered : Bool
  answered = delivers p.setting u e.number e.sender e.receiver

  -- It changes no cast,
  pub received_kept : (k l : ℕ) → cast_by (session_of (with_session x e.session after) l) k ≡ cast_by (session_of x l) k
  received_kept =
      casts_kept x e.session after
      (received_casts p.setting u e.number e.sender e.receiver ∙ same_casts)

  after_deliveries :
      (b : Bool) → answered ≡ b
      → after.deliveries ≡ cond b (set before.deliveries e.receiver (Some e.number)) before.deliveries
  after_deliveries b told =
      received_deliveries p.setting u e.number e.sender e.receiver
      ∙ ap (λ l. cond answered (set l e.receiver (Some e.number)) l) same_deliveries
      ∙ ap (λ b. cond b (set before.deliveries e.receiver (Some e.number)) before.deliveries) told

  room : e.receiver < length before.deliveries
  room = omega (arith, to, (session_good p x good e.session below).steady.table.delivery_places)

  -- and adds the delivery that is answered.
  pub received_adds :
      Adds (λ c s. delivered_by (session_of x s) c) (delivery_if answered (receiving e))
      (λ c s. delivered_by (session_of (with_session x e.session after) s) c)
  received_adds =
      cond_both answered (Some (record { console = e.receiver; session = e.session; number = e.number })) None
      (λ (o : Option Delivery).
      Adds (λ c s. delivered_by (session_of x s) c) o (λ c s. delivered_by (session_of (with_session x e.session after) s) c))
      (λ does. (
        ap (λ l. get_or l e.receiver None) (sym same_deliveries)
            ∙ delivers_first p.setting u e.number e.sender e.receiver does,
        put_there x e.session after p good below (λ k w. delivered_by w k) e.receiver e.number
            (λ k.
            ap (λ l. get_or l k None) (after_deliveries true does)
            ∙ entry_after before.deliveries e.receiver k (Some e.number) None room),
      ))
      (λ does_not. none_added x e.session after (after_deliveries false does_not))
