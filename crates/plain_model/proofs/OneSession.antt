-- The sessions one by one: which are used, and that what happens in one of them keeps the invariant of all.
use Rattle.std.proofs.Common.{◌≡◌, ℕ, ◌+◌, ◌-◌, ◌<◌, ◌≤◌, Bool, true, false, length, sym, ap, ◌∙◌, ⊎_elim, arith}
use Rattle.std.proofs.lemmas.List.{get_or_past, length-set, get_or-set_same, get_or-set_other}
use Rattle.std.proofs.lemmas.Bool.{both_ways, cases_lt}
use Rattle.sets.proofs.Sums.{sum_but_one}
use Rattle.plain_session.specs.Sessions.{empty_session}
use Rattle.plain_session.specs.declared.session_table.SessionTable.{SessionTable}
use Rattle.plain_tables.specs.Tables.{silent_session, session_of, busy_session, with_session}
use Rattle.plain_tables.specs.declared.plan.Plan.{Plan}
use Rattle.plain_tables.specs.declared.tables.Tables.{Tables}
use Rattle.plain_model.specs.Invariant.{Good, GoodSession}
use Rattle.plain_model.specs.Steps.{session_steps, steps_left}
use Rattle.plain_model.proofs.AfterWrites.{by_place, noted_after, noted_fits}

module _ (p : Plan) (x : Tables) (good : Good p x) where
  -- The sessions of the floor are in order.
  pub session_good : (s : ℕ) → s < p.floor.sessions → GoodSession p (session_of x s)
  session_good s below = good.sessions s (omega (arith, good.plan.few_sessions))

  -- They have a place in the table.
  pub session_room : (s : ℕ) → s < p.floor.sessions → s < length x.sessions
  session_room s below = omega (arith, good.places, good.plan.few_sessions)

  -- A session in which something has happened is one of them.
  pub used :
      (test : SessionTable → Bool) (s : ℕ) → test empty_session ≡ false → test silent_session ≡ false → test (session_of x s) ≡ true
      → s < p.floor.sessions
  used test s empty silent there =
      ⊎_elim (λ below. below)
      (λ beyond. absurd (⊎_elim
      (λ here. both_ways _ empty (ap test (sym (good.unused s here beyond)) ∙ there))
      (λ past. both_ways _ silent (ap test (sym (get_or_past x.sessions s silent_session (omega (arith, good.places)))) ∙ there))
      (cases_lt s 16)))
      (cases_lt s p.floor.sessions)

module _ (p : Plan) (x : Tables) (s : ℕ) (t : SessionTable) (good : Good p x) (below : s < p.floor.sessions) where
  place : s < 16
  place = omega (arith, good.plan.few_sessions)

  room : s < length x.sessions
  room = session_room p x good s below

  -- The steps of all sessions fall by as many as those of the one.
  pub steps_change :
      (a : ℕ) → session_steps p (session_of x s) ≡ session_steps p t + a → steps_left p x ≡ steps_left p (with_session x s t) + a
  steps_change a falls =
      sum_but_one p.floor.sessions s a (λ k. session_steps p (session_of x k))
      (λ k. session_steps p (session_of (with_session x s t) k))
      below (λ k other. sym (ap (session_steps p) (get_or-set_other x.sessions s k t silent_session other)))
      (falls ∙ ap (λ (u : SessionTable). session_steps p u + a) (sym (get_or-set_same x.sessions s t silent_session room)))

  -- The invariant holds again, with as many steps fewer as the session lost.
  pub changed_good :
      (a left : ℕ) → GoodSession p t → session_steps p (session_of x s) ≡ session_steps p t + a → left ≡ x.left - a
      → Good p (record { sessions = (with_session x s t).sessions; busy = (with_session x s t).busy; left = left })
  changed_good a left new falls taken =
      record {
        plan = good.plan;
        places = length-set x.sessions s t ∙ good.places;
        sessions =
            by_place (λ (k : ℕ) (u : SessionTable). k < 16 → GoodSession p u) x.sessions s t silent_session (λ _. new)
            good.sessions;
        unused =
            by_place (λ (k : ℕ) (u : SessionTable). k < 16 → p.floor.sessions ≤ k → u ≡ empty_session) x.sessions s t silent_session
            (λ _ beyond. absurd (omega (arith, below))) good.unused;
        busy_places = noted_fits x.busy s (busy_session t) (omega (arith, place)) good.busy_places;
        sessions_noted =
            noted_after busy_session x.busy x.sessions s t silent_session room (omega (arith, place)) good.busy_places
            good.sessions_noted;
        counted = omega (arith, taken, good.counted, steps_change a falls);
      }
