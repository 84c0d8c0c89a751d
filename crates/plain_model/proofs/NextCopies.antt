-- The offered copy is the next one, and handing it over is accepted.
use Rattle.std.proofs.Common.{◌≡◌, ℕ, ◌<◌, true, false, not, is_some, Some, None, Option, sym, refl, ap, ◌∙◌, subst, inl, inr, arith, MatchOption, option_map, option_and_then}
use Rattle.std.proofs.lemmas.Bool.{both_ways, eq-eqb, ne_eqb, lt-leb, not-true}
use Rattle.sets.proofs.Fronts.{first_member_is}
use Rattle.sets.specs.Members.{has, Lowest}
use Rattle.floor.specs.Refusals.{first_found}
use Rattle.plain_session.specs.declared.endorsement.Endorsement.{Endorsement}
use Rattle.plain_session.specs.Sessions.{first_copy}
use Rattle.plain_tables.specs.Tables.{busy_session, session_of, next_copy, quiet, under_way}
use Rattle.plain_tables.specs.declared.event.PlainEvent.TheVariants.{Hand}
use Rattle.plain_tables.specs.declared.plan.Plan.{Plan}
use Rattle.plain_tables.specs.declared.tables.Tables.{Tables}
use Rattle.plain_model.specs.Invariant.{Good}
use Rattle.plain_model.specs.Offers.{Before, Offers}
use Rattle.plain_model.specs.Plans.{is_honest}
use Rattle.plain_model.specs.Steps.{event_checks, offer_of, byzantine}
use Rattle.plain_model.proofs.Accepted.{Sent}
use Rattle.plain_model.proofs.FirstCopies.{SessionNext, busy_place, session_next}
use Rattle.plain_model.proofs.HonestSet.{honest_below, honest_or_byzantine}
use Rattle.plain_model.proofs.OneSession.{session_good, used}
use Rattle.plain_model.proofs.Quiet.{way_session, idle_sender, idle_number, idle_session, quiet_all}
use Rattle.plain_model.proofs.SetFacts.{no_member}

module _ (p : Plan) (x : Tables) (good : Good p x) where
  -- A copy under way is one between honest consoles, in range.
  pub way_sent : (e : Endorsement) → under_way x e ≡ true → Sent p x e
  way_sent e way =
      let session = way_session p x good e.session e.number e.sender e.receiver way in
      let row = (session_good p x good e.session session).steady.table.rows e.number in
      let ends = row.pending_sent e.sender e.receiver way in
      let sender = row.endorsers e.sender ends.0 in
      record {
        numbers =
            record {
              from = honest_below p e.sender good.plan sender.0;
              to = honest_below p e.receiver good.plan ends.1;
              session = session;
              number = sender.1;
            };
        from = sender.0;
        to = ends.1;
        way = way;
      }

  -- So no check turns it away.
  not_byzantine : (c : ℕ) → is_honest p c ≡ true → byzantine p.floor c ≡ false
  not_byzantine c honest =
      not-true _ (sym (honest_or_byzantine p c good.plan (honest_below p c good.plan honest)) ∙ honest)

  pub sent_accepted : (e : Endorsement) → Sent p x e → first_found (event_checks p x (Hand e)) ≡ None
  sent_accepted e is =
      rw (
        lt-leb p.floor.consoles e.sender is.numbers.from,
        lt-leb p.floor.consoles e.receiver is.numbers.to,
        lt-leb p.floor.sessions e.session is.numbers.session,
        lt-leb p.floor.capacity e.number is.numbers.number,
        not_byzantine e.sender is.from,
        not_byzantine e.receiver is.to,
        is.way,
      ) refl

  -- The lowest busy session, and what it has.
  record Next (e : Endorsement) : Type 0 where
    session : Lowest x.busy.places.mask e.session
    below : e.session < 16
    rest : SessionNext p good.plan (session_of x e.session) e.session e

  in_session :
      (s : ℕ) (o : Option Endorsement) → s < 16 → Lowest x.busy.places.mask s
      → MatchOption o ((session_of x s).numbers.places.mask ≡ 0) (SessionNext p good.plan (session_of x s) s)
      → MatchOption o (x.busy.places.mask ≡ 0) Next
  in_session s None below low empty = absurd (busy_place _ _ (good.sessions_noted s) low.0 empty)
  in_session s (Some e) below low next =
      let same = sym next.row.session in
      record {
        session = subst (Lowest x.busy.places.mask) same low;
        below = subst (λ (k : ℕ). k < 16) same below;
        rest = subst (λ (k : ℕ). SessionNext p good.plan (session_of x k) k e) same next;
      }

  -- Busy sessions have a place,
  busy_below : (s : ℕ) → has x.busy.places.mask s ≡ true → s < 16
  busy_below s busy =
      let below = used p x good busy_session s refl refl (sym (good.sessions_noted s) ∙ busy) in
      omega (arith, good.plan.few_sessions)

  -- and the lowest one has the next copy.
  in_busy :
      (o : Option ℕ) → MatchOption o (x.busy.places.mask ≡ 0) (Lowest x.busy.places.mask)
      → MatchOption (option_and_then (λ s. first_copy (session_of x s) s) o) (x.busy.places.mask ≡ 0) Next
  in_busy None empty = empty
  in_busy (Some s) low =
      let below = busy_below s low.0 in
      in_session s _ below low (session_next p good.plan (session_of x s) s (good.sessions s below))

  tables_next : MatchOption (next_copy x) (x.busy.places.mask ≡ 0) Next
  tables_next = in_busy _ (first_member_is _ good.busy_places)

  next_way : (e : Endorsement) → Next e → under_way x e ≡ true
  next_way e next = next.rest.row.receiver.0

  -- The copies before it are not under way.
  before_idle : (e other : Endorsement) → Next e → Before other e → under_way x other ≡ false
  before_idle e other next (inl session) = idle_session p x good _ (next.session.1 _ session) _ _ _
  before_idle e other next (inr (same, inl number)) =
      rw same (idle_number p (session_of x e.session) _ (good.sessions _ next.below) (next.rest.number.1 _ number) _ _)
  before_idle e other next (inr (same, inr (row, inl sender))) =
      rw (same, row)
      (idle_sender p _ _ _ ((good.sessions _ next.below).steady.table.rows e.number) (next.rest.row.sender.1 _ sender) _)
  before_idle e other next (inr (same, inr (row, inr (from, receiver)))) =
      rw (same, row, from) (next.rest.row.receiver.1 _ receiver)

  offers_by : (o : Option Endorsement) → MatchOption o (x.busy.places.mask ≡ 0) Next → Offers x (option_map Hand o)
  offers_by None empty = λ e. quiet_all p x good (eq-eqb _ 0 empty) e.session e.number e.sender e.receiver
  offers_by (Some e) next = (next_way e next, λ other. before_idle e other next)

  -- What is offered is the next copy, and nothing where none is under way.
  pub offers : Offers x (offer_of x)
  offers = offers_by _ tables_next

  offering_by : (o : Option Endorsement) → MatchOption o (x.busy.places.mask ≡ 0) Next → is_some (option_map Hand o) ≡ not (quiet x)
  offering_by None empty = sym (ap not (eq-eqb _ 0 empty))
  offering_by (Some e) next =
      sym (ap not (ne_eqb _ 0 (λ empty. both_ways _ (no_member _ e.session empty) next.session.0)))

  -- Nothing is offered exactly when it is quiet.
  pub offering : is_some (offer_of x) ≡ not (quiet x)
  offering = offering_by _ tables_next
