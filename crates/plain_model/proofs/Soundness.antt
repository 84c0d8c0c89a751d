-- What is true of a plain caster at any time, from its invariant.
use Rattle.std.proofs.Common.{◌≡◌, ℕ, ◌*◌, ◌<◌, ◌≤◌, true, ◌&&◌, is_some, Some, None, sym, refl, ap, ◌∙◌, mul-le-mul_left, arith}
use Rattle.std.proofs.lemmas.Bool.{and_parts}
use Rattle.sets.proofs.Counts.{count_le, place_of_count}
use Rattle.sets.proofs.Sums.{sum_mono, sum_const}
use Rattle.sets.specs.Counting.{count}
use Rattle.quorum.specs.declared.figures.Figures.{Figures}
use Rattle.caster.specs.Floors.{honest, honestly}
use Rattle.caster.specs.Laws.{Sound, Placed, OnlyCast}
use Rattle.caster.specs.Meanings.{is}
use Rattle.plain_session.specs.Sessions.{row_of, cast_by, delivered_by}
use Rattle.plain_session.specs.declared.row.Row.{Row}
use Rattle.plain_session.specs.declared.session_table.SessionTable.{SessionTable}
use Rattle.plain_tables.specs.Tables.{session_of}
use Rattle.plain_tables.specs.declared.plan.Plan.{Plan}
use Rattle.plain_tables.specs.declared.tables.Tables.{Tables}
use Rattle.plain_model.specs.Invariant.{Good}
use Rattle.plain_model.specs.Plans.{SoundPlan, is_honest}
use Rattle.plain_model.specs.Steps.{meaning_of, steps_left, session_steps, row_steps, still_open}
use Rattle.plain_model.specs.Views.{OnlyCastIn}
use Rattle.plain_model.proofs.Backing.{backed_in, voiced_in}
use Rattle.plain_model.proofs.Entries.{from_is}
use Rattle.plain_model.proofs.HonestSet.{honest_is, among_honestly}
use Rattle.plain_model.proofs.OneSession.{session_good, used}
use Rattle.plain_model.proofs.Quiet.{quiet_all}
use Rattle.plain_model.proofs.Spreading.{positive_figures, spread_in, supported_in}
use Rattle.plain_model.proofs.StillRows.{all_alike}

-- ---- steps left are few

-- A number has a step for each sender and receiver at most, a session those of its numbers, and a floor those of its sessions.
rows_few : (p : Plan) → SoundPlan p → (r : Row) → row_steps p r ≤ 1024
rows_few p sound r =
    let n = p.floor.consoles in
    let square : n * n ≤ 1024 = omega (arith, mul-le-mul_left n sound.few_consoles, sound.few_consoles) in
    omega (arith, square, sum_mono n (λ f. count n (still_open p r f)) (λ _. n) (λ f _. count_le n (still_open p r f)), sum_const n n)

sessions_few : (p : Plan) → SoundPlan p → (t : SessionTable) → session_steps p t ≤ 8192
sessions_few p sound t =
    let V = p.floor.capacity in
    omega (
      arith,
      sound.few_numbers,
      sum_mono V (λ v. row_steps p (row_of t v)) (λ _. 1024) (λ v _. rows_few p sound (row_of t v)),
      sum_const V 1024,
    )

steps_few : (p : Plan) (x : Tables) → SoundPlan p → steps_left p x ≤ 65536 * p.floor.sessions
steps_few p x sound =
    let S = p.floor.sessions in
    omega (
      arith,
      sum_mono S (λ s. session_steps p (session_of x s)) (λ _. 8192) (λ s _. sessions_few p sound (session_of x s)),
      sum_const S 8192,
    )

-- ---- what a session shows, on the whole floor

module _ (p : Plan) (x : Tables) (good : Good p x) where
  -- A session in which something was cast or delivered is one of the floor's.
  cast_session : (c s v : ℕ) → cast_by (session_of x s) c ≡ Some v → s < p.floor.sessions
  cast_session c s v there =
      used p x good (λ t. is_some (cast_by t c)) s (ap is_some (all_alike 32 None c)) refl (ap is_some there)

  delivery_session : (c s v : ℕ) → delivered_by (session_of x s) c ≡ Some v → s < p.floor.sessions
  delivery_session c s v there =
      used p x good (λ t. is_some (delivered_by t c)) s (ap is_some (all_alike 32 None c)) refl (ap is_some there)

  placed : (c s v : ℕ) → is_honest p c ≡ true → s < p.floor.sessions → v < p.floor.capacity → Placed (meaning_of p x) c s v
  placed c s v honest below known =
      record { console = sym (honest_is p c good.plan) ∙ honest; session = below; number = known }

  only_in : (s v : ℕ) → OnlyCast (meaning_of p x) s v → OnlyCastIn p (session_of x s) v
  only_in s v only c u honest = only c u (sym (honest_is p c good.plan) ∙ honest)

  -- A number with support was cast by somebody, so in a session of the floor.
  supported_session :
      (s v : ℕ) → p.figures.support ≤ honestly p.floor (λ c. is (cast_by (session_of x s) c) v) → s < p.floor.sessions
  supported_session s v enough =
      let found =
      place_of_count p.floor.consoles (λ c. honest p.floor c && is (cast_by (session_of x s) c) v)
      (omega (arith, enough, (positive_figures p good.plan).1)) in
      cast_session found.0 s v (from_is _ v (and_parts _ _ found.2).1)

  -- The plain caster is sound.
  pub plain_sound : Sound (meaning_of p x)
  plain_sound =
      let sound = good.plan in
      record {
        in_range =
            record { few_consoles = sound.few_consoles; few_sessions = sound.few_sessions; few_numbers = sound.few_numbers };
        cast_placed =
            λ c s v there.
            let below = cast_session c s v there in let fact = (session_good p x good s below).steady.cast_voted c v there in
            placed c s v fact.0 below fact.1;
        delivery_placed =
            λ c s v there.
            let below = delivery_session c s v there in let fact = (session_good p x good s below).steady.delivered_heard c v there in
            placed c s v fact.0 below fact.1;
        few_steps = steps_few p x sound;
        positive = positive_figures p sound;
        backed =
            λ c s v there.
            let t = session_good p x good s (delivery_session c s v there) in
            omega (
              arith,
              backed_in p (session_of x s) c v sound t there,
              ap (λ (f : Figures). f.backing) sound.figures,
              among_honestly p (λ k. is (cast_by (session_of x s) k) v) sound,
            );
        voiced =
            λ loud b c s u v first second.
            voiced_in p (session_of x s) b c u v sound (session_good p x good s (delivery_session b s u first)) loud first second;
        supported =
            λ quiet s v enough only.
            let t = session_good p x good s (supported_session s v enough) in
            omega (
              arith,
              supported_in p (session_of x s) v sound t (quiet_all p x good quiet s)
                  (omega (arith, enough, among_honestly p (λ k. is (cast_by (session_of x s) k) v) sound)) (only_in s v only),
              among_honestly p (λ k. is (delivered_by (session_of x s) k) v) sound,
            );
        spread =
            λ quiet c s v there only.
            let t = session_good p x good s (delivery_session c s v there) in
            omega (
              arith,
              spread_in p (session_of x s) c v sound t (quiet_all p x good quiet s) there (only_in s v only),
              among_honestly p (λ k. is (delivered_by (session_of x s) k) v) sound,
            );
      }
