-- What comes of a number in a session at rest where no honest console cast another.
use Rattle.std.proofs.Common.{◌≡◌, ℕ, ◌+◌, ◌≤◌, true, false, ◌&&◌, is_some, Some, None, Option, sym, refl, ap, ◌∙◌, subst, ⊎_elim, arith}
use Rattle.std.proofs.lemmas.Bool.{false≢true, and_parts, and_from, leb-true}
use Rattle.sets.proofs.Counts.{count_mono, place_of_count}
use Rattle.quorum.proofs.Waves.{rules_amplify, amplification, reaches, supports, positive}
use Rattle.quorum.specs.Figures.{support_of}
use Rattle.quorum.specs.Waves.{Amplifying, Wave}
use Rattle.quorum.specs.declared.figures.Figures.{Figures}
use Rattle.caster.specs.Meanings.{is}
use Rattle.plain_session.specs.Sessions.{row_of, cast_by, delivered_by}
use Rattle.plain_session.specs.declared.session_table.SessionTable.{SessionTable}
use Rattle.plain_tables.specs.declared.plan.Plan.{Plan}
use Rattle.plain_model.specs.Invariant.{GoodSession}
use Rattle.plain_model.specs.Plans.{SoundPlan, is_honest, honest_total, backing}
use Rattle.plain_model.specs.Views.{endorsed, heard, pending, voted, casters, deliverers, OnlyCastIn}
use Rattle.plain_model.proofs.Backing.{backed_in}
use Rattle.plain_model.proofs.Entries.{is_from, from_is}
use Rattle.plain_model.proofs.HeardOrigin.{honest_heard}
use Rattle.plain_model.proofs.HonestSet.{honest_most}
use Rattle.plain_model.proofs.SessionWaves.{AtRest, endorsers, hears, hearers, wave_at_rest}

-- ---- the figures of a plan

amplifying : (p : Plan) → SoundPlan p
    → Amplifying p.tolerated p.floor.lost p.setting.thresholds.deliver p.setting.thresholds.forward (honest_total p)
amplifying p sound = rules_amplify _ _ _ _ _ sound.rules

-- Each figure is at least 1.
pub positive_figures : (p : Plan) → SoundPlan p → (1 ≤ p.figures.backing) × (1 ≤ p.figures.support) × (1 ≤ p.figures.reach)
positive_figures p sound =
    subst (λ (f : Figures). (1 ≤ f.backing) × (1 ≤ f.support) × (1 ≤ f.reach)) (sym sound.figures)
    (positive.plain p.floor.consoles p.tolerated p.floor.lost p.setting.thresholds.deliver p.setting.thresholds.forward (honest_total p)
    (honest_most p sound) sound.tolerable (amplifying p sound))

-- ---- of one number only

module _ (p : Plan) (t : SessionTable) (v : ℕ) (sound : SoundPlan p) (good : GoodSession p t) (only : OnlyCastIn p t v) where
  -- Some honest console cast a number that has backing.
  only_backed : (u : ℕ) → backing p ≤ casters p t u → u ≡ v
  only_backed u backed =
      let found = place_of_count p.floor.consoles (λ k. is_honest p k && is (cast_by t k) u)
      (omega (arith, (positive_figures p sound).0, ap (λ (f : Figures). f.backing) sound.figures)) in
      let there = and_parts (is_honest p found.0) _ found.2 in
      only found.0 u there.0 (from_is (cast_by t found.0) u there.1)

  only_endorsed : (u c : ℕ) → endorsed (row_of t u) c ≡ true → u ≡ v
  only_endorsed u c e =
      ⊎_elim (λ cast. only c u ((good.steady.table.rows u).endorsers c e).0 cast) (only_backed u) (good.steady.votes.origin u c e)

  only_delivered : (u c : ℕ) → delivered_by t c ≡ Some u → u ≡ v
  only_delivered u c e = only_backed u (backed_in p t c u sound good e)

  -- A console that endorsed some number endorsed this one.
  voted_it : (c : ℕ) → voted t c ≡ true → endorsed (row_of t v) c ≡ true
  voted_it c e =
      let some = good.steady.votes.voted_some c e in
      subst (λ (u : ℕ). endorsed (row_of t u) c ≡ true) (only_endorsed some.0 c some.1) some.1

  -- A console that delivered some number delivered this one.
  delivered_it : (c : ℕ) → is_some (delivered_by t c) ≡ true → delivered_by t c ≡ Some v
  delivered_it c e = by (delivered_by t c) refl e
    where
      by : (o : Option ℕ) → delivered_by t c ≡ o → is_some o ≡ true → delivered_by t c ≡ Some v
      by None same e = absurd (false≢true e)
      by (Some u) same e = same ∙ ap Some (only_delivered u c same)

  -- Who heard it often enough delivered it.
  hearer_delivered :
      (c : ℕ) → hears p t v p.setting.thresholds.deliver c ≡ true
      → (is_honest p c ≡ true) × (delivered_by t c ≡ Some v)
  hearer_delivered c e =
      let parts = and_parts _ _ e in
      (parts.0, delivered_it c (good.heard_delivered v c parts.0 (leb-true _ _ parts.1)))

  hearers_deliver : hearers p t v p.setting.thresholds.deliver ≤ deliverers p t v
  hearers_deliver =
      count_mono p.floor.consoles (hears p t v p.setting.thresholds.deliver)
      (λ c. is_honest p c && is (delivered_by t c) v)
      (λ c _ e. let done = hearer_delivered c e in and_from _ _ done.0 (is_from (delivered_by t c) v done.1))

  -- Who cast it endorsed it.
  casters_endorse : casters p t v ≤ endorsers p t v
  casters_endorse =
      count_mono p.floor.consoles (λ c. is_honest p c && is (cast_by t c) v) (endorsed (row_of t v))
      (λ c _ e. voted_it c (good.steady.cast_voted c v (from_is (cast_by t c) v (and_parts _ _ e).1)).2)

  -- Whom a deliverer heard endorsed it, but for the Byzantine consoles.
  heard_endorse : (c : ℕ) → delivered_by t c ≡ Some v → p.setting.thresholds.deliver ≤ endorsers p t v + p.tolerated
  heard_endorse c e =
      omega (
        arith,
        (good.steady.delivered_heard c v e).2,
        honest_heard p t v c sound (good.steady.table.rows v),
        sound.tolerable,
        count_mono p.floor.consoles (λ f. is_honest p f && heard (row_of t v) f c) (endorsed (row_of t v))
            (λ f _ h. let parts = and_parts _ _ h in (good.steady.table.rows v).heard_sent f c parts.0 parts.1),
      )

-- ---- at rest

-- Who heard it often enough endorsed it, since nobody endorsed another: its copies make a wave.
wave_of_only :
    (p : Plan) (t : SessionTable) (v : ℕ) → SoundPlan p → GoodSession p t → AtRest t v → OnlyCastIn p t v
    → Wave p.floor.lost p.setting.thresholds.deliver p.setting.thresholds.forward (honest_total p) (endorsers p t v)
    (hearers p t v p.setting.thresholds.forward) (hearers p t v p.setting.thresholds.deliver)
wave_of_only p t v sound good rest only =
    wave_at_rest p t v sound good rest
    (λ c honest enough. ⊎_elim (λ e. e) (λ other. voted_it p t v sound good only c other.1) (good.forwarding v c honest enough))

-- A number that one delivered is delivered by as many as the reach.
pub spread_in :
    (p : Plan) (t : SessionTable) (c v : ℕ) → SoundPlan p → GoodSession p t → ((u f k : ℕ) → pending (row_of t u) f k ≡ false)
    → delivered_by t c ≡ Some v → OnlyCastIn p t v → p.figures.reach ≤ deliverers p t v
spread_in p t c v sound good rest e only =
    let wave = wave_of_only p t v sound good (rest v) only in
    let rules = amplifying p sound in
    let enough = amplification _ _ _ _ _ _ _ _ rules wave (heard_endorse p t v sound good only c e) in
    omega (
      arith,
      ap (λ (f : Figures). f.reach) sound.figures,
      reaches _ _ _ _ _ _ _ _ rules wave enough,
      hearers_deliver p t v sound good only,
    )

-- A number that as many as the support cast is delivered by as many as the reach.
pub supported_in :
    (p : Plan) (t : SessionTable) (v : ℕ) → SoundPlan p → GoodSession p t → ((u f k : ℕ) → pending (row_of t u) f k ≡ false)
    → p.figures.support ≤ casters p t v → OnlyCastIn p t v → p.figures.reach ≤ deliverers p t v
supported_in p t v sound good rest cast only =
    let wave = wave_of_only p t v sound good (rest v) only in
    let enough : support_of p.floor.lost p.setting.thresholds.deliver p.setting.thresholds.forward (honest_total p) ≤ endorsers p t v =
    omega (arith, ap (λ (f : Figures). f.support) sound.figures, casters_endorse p t v sound good only) in
    let found = place_of_count p.floor.consoles (hears p t v p.setting.thresholds.deliver)
    (supports _ _ _ _ _ _ _ _ (amplifying p sound) wave enough) in
    spread_in p t found.0 v sound good rest (hearer_delivered p t v sound good only found.0 found.2).1 only
