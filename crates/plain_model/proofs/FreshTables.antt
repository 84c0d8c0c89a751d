-- A new caster keeps the invariant.
use Rattle.std.proofs.Common.{◌≡◌, ℕ, ◌*◌, ◌<◌, Bool, true, false, cond, not, ◌&&◌, ◌||◌, sym, refl, ap, ◌∙◌, subst, ⊎_elim, arith, pow_pos}
use Rattle.std.proofs.lemmas.List.{length-replicate, get_or-replicate, get_or_past}
use Rattle.std.proofs.lemmas.Bool.{cases_lt}
use Rattle.sets.proofs.Bits.{has_zero}
use Rattle.sets.proofs.Sums.{sum_cong, sum_scale, sum_const}
use Rattle.sets.proofs.Counts.{count_cong}
use Rattle.sets.specs.Counting.{count}
use Rattle.sets.specs.Members.{has}
use Rattle.sets.specs.declared.console_set.ConsoleSet.{ConsoleSet}
use Rattle.plain_session.specs.Rows.{empty_row}
use Rattle.plain_session.specs.Sessions.{silent_row, empty_session}
use Rattle.plain_session.specs.declared.row.Row.{Row}
use Rattle.plain_tables.specs.Tables.{silent_session, busy_session, session_of}
use Rattle.plain_tables.specs.declared.plan.Plan.{Plan}
use Rattle.plain_model.specs.Invariant.{Good, GoodSession}
use Rattle.plain_model.specs.Making.{new_tables}
use Rattle.plain_model.specs.Plans.{SoundPlan, is_honest, honest_total}
use Rattle.plain_model.specs.Steps.{still_open, row_steps, session_steps, steps_left}
use Rattle.plain_model.proofs.HonestSet.{honest_counted}
use Rattle.plain_model.proofs.LostCopies.{empty_session_good}
use Rattle.plain_model.proofs.StillRows.{Still, empty_row_still}

or_false : {a b : Bool} → a ≡ false → b ≡ false → (a || b) ≡ false
or_false e d = rw (e, d) refl

and_true : (b : Bool) → (b && true) ≡ b
and_true true = refl
and_true false = refl

-- A row in which nothing has happened has a step for each pair of honest consoles.
module _ (p : Plan) (sound : SoundPlan p) where
  abbrev n : ℕ
  n = p.floor.consoles

  abbrev h : ℕ
  h = honest_total p

  none_from : (k : ℕ) → count k (λ c. false) ≡ 0
  unfolding count
  none_from k = omega (arith, sum_const k 0)

  from_one : (b : Bool) → count n (λ c. b && is_honest p c) ≡ cond b 1 0 * h
  from_one true = omega (arith, honest_counted p sound)
  from_one false = omega (arith, none_from n)

  all_open : (r : Row) → Still r → (f c : ℕ) → still_open p r f c ≡ (is_honest p f && is_honest p c)
  all_open r still f c =
      ap (λ (b : Bool). is_honest p f && (is_honest p c && not b))
      (or_false (ap (λ (s : ConsoleSet). has s.mask f) (still.unheard c) ∙ has_zero f)
      (ap (λ (s : ConsoleSet). has s.mask c) (still.unlost f) ∙ has_zero c))
      ∙ ap (λ (b : Bool). is_honest p f && b) (and_true (is_honest p c))

  still_steps : (r : Row) → Still r → row_steps p r ≡ h * h
  unfolding count
  still_steps r still =
      sum_cong n _ (λ f. cond (is_honest p f) 1 0 * h)
      (λ f _. count_cong n _ _ (λ c _. all_open r still f c) ∙ from_one (is_honest p f))
      ∙ sum_scale n h (λ f. cond (is_honest p f) 1 0)
      ∙ ap (λ (k : ℕ). k * h) (sym (honest_counted p sound))

  empty_session_steps : session_steps p empty_session ≡ p.floor.capacity * (h * h)
  empty_session_steps =
      sum_cong p.floor.capacity _ (λ _. h * h)
      (λ v below.
      ap (row_steps p) (get_or-replicate 8 v empty_row silent_row (omega (arith, below, sound.few_numbers)))
      ∙ still_steps empty_row empty_row_still)
      ∙ sum_const p.floor.capacity (h * h)

  new_session : (s : ℕ) → s < 16 → session_of (new_tables p) s ≡ empty_session
  new_session s below = get_or-replicate 16 s empty_session silent_session below

  new_steps : steps_left p (new_tables p) ≡ p.floor.sessions * (p.floor.capacity * (h * h))
  new_steps =
      sum_cong p.floor.sessions _ (λ _. p.floor.capacity * (h * h))
      (λ s below. ap (session_steps p) (new_session s (omega (arith, below, sound.few_sessions))) ∙ empty_session_steps)
      ∙ sum_const p.floor.sessions (p.floor.capacity * (h * h))

  -- No session has copies under way.
  none_busy : (s : ℕ) → busy_session (session_of (new_tables p) s) ≡ false
  none_busy s =
      ⊎_elim (λ here. ap busy_session (new_session s here))
      (λ past. ap busy_session (get_or_past (new_tables p).sessions s silent_session (omega (arith, length-replicate 16 empty_session))))
      (cases_lt s 16)

  -- Nothing has happened, and all is in order.
  pub new_good : Good p (new_tables p)
  new_good =
      record {
        plan = sound;
        places = length-replicate 16 empty_session;
        sessions = λ s below. subst (GoodSession p) (sym (new_session s below)) (empty_session_good p sound);
        unused = λ s below _. new_session s below;
        busy_places = pow_pos 32;
        sessions_noted = λ s. has_zero s ∙ sym (none_busy s);
        counted = sym new_steps;
      }
