-- What stands behind a number that is heard often enough, or delivered: honest consoles that cast it.
use Rattle.std.proofs.Common.{◌≡◌, ℕ, ◌+◌, ◌*◌, ◌<◌, ◌≤◌, Bool, true, false, not, ◌&&◌, Some, None, Option, sym, refl, ap, ◌∙◌, ⊎_elim, arith}
use lib.Bits.{bit_and}
use Rattle.std.proofs.lemmas.Bool.{and_parts, or_cases, cases_eq, ne_eqb, eqb-true, ltb-true}
use Rattle.sets.proofs.Bits.{has_and}
use Rattle.sets.proofs.Bounds.{count_apart}
use Rattle.sets.proofs.Counts.{place_of_count}
use Rattle.sets.proofs.Sizes.{quorums_meet}
use Rattle.sets.specs.Members.{has, Within}
use Rattle.quorum.proofs.Waves.{voices}
use Rattle.quorum.specs.Figures.{overlap}
use Rattle.quorum.specs.declared.figures.Figures.{Figures}
use Rattle.caster.specs.Meanings.{is}
use Rattle.plain_session.specs.Protocol.{heard_count}
use Rattle.plain_session.specs.Rows.{heard_by}
use Rattle.plain_session.specs.Sessions.{row_of, cast_by, delivered_by}
use Rattle.plain_session.specs.declared.session_table.SessionTable.{SessionTable}
use Rattle.plain_tables.specs.declared.plan.Plan.{Plan}
use Rattle.plain_model.specs.Invariant.{GoodSession}
use Rattle.plain_model.specs.Plans.{SoundPlan, is_honest, honest_total, backing}
use Rattle.plain_model.specs.Views.{endorsed, casters}
use Rattle.plain_model.proofs.HeardOrigin.{heard_origin}
use Rattle.plain_model.proofs.HonestSet.{honest_counted, honest_most, honest_members}

-- ---- backed

-- A number that is delivered was cast by as many as the backing.
pub backed_in :
    (p : Plan) (t : SessionTable) (c v : ℕ) → SoundPlan p → GoodSession p t → delivered_by t c ≡ Some v
    → backing p ≤ casters p t v
backed_in p t c v sound good e =
    heard_origin p t v c sound (good.steady.table.rows v) good.steady.votes
    (omega (arith, (good.steady.delivered_heard c v e).2, sound.rules.ordered))

-- ---- voiced

-- Two numbers that are heard so often that the hearers' sets overlap were both endorsed by an honest console.
shared_endorser :
    (p : Plan) (t : SessionTable) (u v b c : ℕ) → SoundPlan p → GoodSession p t
    → p.floor.consoles + p.tolerated < 2 * p.setting.thresholds.deliver
    → p.setting.thresholds.deliver ≤ heard_count t u b → p.setting.thresholds.deliver ≤ heard_count t v c
    → (k : ℕ) × (endorsed (row_of t u) k ≡ true) × (endorsed (row_of t v) k ≡ true)
shared_endorser p t u v b c sound good large hu hv =
    let rows = good.steady.table.rows in
    let x = (heard_by (row_of t u) b).mask in
    let y = (heard_by (row_of t v) c).mask in
    let xs : Within p.floor.consoles x = λ f e. (rows u).heard_within f b e in
    let ys : Within p.floor.consoles y = λ f e. (rows v).heard_within f c e in
    let both : (f : ℕ) → has (bit_and x y) f ≡ true → (has x f ≡ true) × (has y f ≡ true) =
    λ f e. and_parts (has x f) (has y f) (sym (has_and x y f) ∙ e) in
    let many = quorums_meet p.floor.consoles p.tolerated p.setting.thresholds.deliver x y xs ys hu hv large in
    let honest = honest_members p (bit_and x y) sound (λ f e. xs f (both f e).0) in
    let found = place_of_count p.floor.consoles (λ f. is_honest p f && has (bit_and x y) f) (omega (arith, sound.tolerable)) in
    let k = found.0 in
    let there = and_parts (is_honest p k) (has (bit_and x y) k) found.2 in
    let reached = both k there.1 in
    (k, (rows u).heard_sent k b there.0 reached.0, (rows v).heard_sent k c there.0 reached.1)

-- The casters of two numbers are apart.
casters_apart :
    (p : Plan) (t : SessionTable) (u v : ℕ) → SoundPlan p → (u ≡ v → ⊥) → casters p t u + casters p t v ≤ honest_total p
casters_apart p t u v sound other =
    omega (
      arith,
      honest_counted p sound,
      count_apart p.floor.consoles (λ k. is_honest p k && is (cast_by t k) u) (λ k. is_honest p k && is (cast_by t k) v)
          (is_honest p) (λ k _ e. (and_parts _ _ e).0) (λ k _ e. apart (is_honest p k) (cast_by t k) e),
    )
  where
    apart : (h : Bool) (o : Option ℕ) → (h && is o v) ≡ true → (h && not (h && is o u)) ≡ true
    apart false o e = e
    apart true None e = refl
    apart true (Some w) e = ap not (ne_eqb w u (λ same. other (sym same ∙ eqb-true w v e)))

-- Where backings do not fit beside each other, two deliveries are of one number,
voiced_by_casters :
    (p : Plan) (t : SessionTable) (b c u v : ℕ) → SoundPlan p → GoodSession p t
    → p.floor.consoles + p.tolerated < 2 * p.setting.thresholds.forward
    → delivered_by t b ≡ Some u → delivered_by t c ≡ Some v → u ≡ v
voiced_by_casters p t b c u v sound good large du dv =
    ⊎_elim
    (λ same. same)
    (λ other. absurd
    (omega (
      arith,
      voices.apart p.floor.consoles p.tolerated (honest_total p) p.setting.thresholds.forward (honest_most p sound)
          sound.tolerable large,
      casters_apart p t u v sound other,
      backed_in p t b u sound good du,
      backed_in p t c v sound good dv,
    )))
    (cases_eq u v)

-- and so they are where a console endorses one number, and hearers overlap.
voiced_by_endorsers :
    (p : Plan) (t : SessionTable) (b c u v : ℕ) → SoundPlan p → GoodSession p t → p.setting.thresholds.single ≡ true
    → p.floor.consoles + p.tolerated < 2 * p.setting.thresholds.deliver
    → delivered_by t b ≡ Some u → delivered_by t c ≡ Some v → u ≡ v
voiced_by_endorsers p t b c u v sound good single large du dv =
    let heard = good.steady.delivered_heard in
    let shared = shared_endorser p t u v b c sound good large (heard b u du).2 (heard c v dv).2 in
    good.steady.votes.once single u v shared.0 shared.1 shared.2

-- With voice, two deliveries are of one number.
pub voiced_in :
    (p : Plan) (t : SessionTable) (b c u v : ℕ) → SoundPlan p → GoodSession p t → p.figures.voice ≡ true
    → delivered_by t b ≡ Some u → delivered_by t c ≡ Some v → u ≡ v
voiced_in p t b c u v sound good voice du dv =
    let n = p.floor.consoles in
    let tol = p.tolerated in
    ⊎_elim
    (λ large. voiced_by_casters p t b c u v sound good (ltb-true _ _ large) du dv)
    (λ both. let parts = and_parts _ _ both in voiced_by_endorsers p t b c u v sound good parts.0 (ltb-true _ _ parts.1) du dv)
    (or_cases (overlap n tol p.setting.thresholds.forward) (p.setting.thresholds.single && overlap n tol p.setting.thresholds.deliver)
    (sym (ap (λ (f : Figures). f.voice) sound.figures) ∙ voice))
