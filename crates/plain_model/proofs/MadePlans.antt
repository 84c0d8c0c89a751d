-- The plan of a draft whose thresholds keep their rules is sound.
use Rattle.std.proofs.Common.{◌≡◌, ℕ, ◌^◌, ◌<◌, ◌≤◌, Bool, true, false, ◌&&◌, ltb, sym, refl, ap, ◌∙◌, subst, arith}
use lib.Bits.{bit_and}
use lib.Count.{ones}
use Rattle.std.proofs.lemmas.Bool.{lt-ltb}
use Rattle.std.proofs.lemmas.Bool.Decides.{nat_tests}
use Rattle.sets.proofs.Bits.{has_and, same_members, within_from_lt}
use Rattle.sets.proofs.Operations.{has_first_mask, ones_first_mask}
use Rattle.sets.proofs.TwoMasks.{ones_rest}
use Rattle.sets.specs.Members.{has, first_mask}
use Rattle.quorum.specs.Figures.{figures_of}
use Rattle.quorum.specs.Rules.{Borne, PlainRules}
use Rattle.quorum.specs.declared.thresholds.PlainThresholds.{PlainThresholds}
use Rattle.quorum.specs.declared.thresholds.Thresholds.TheVariants.{Plain}
use Rattle.floor.specs.Drafts.{IsTolerated, DraftState, honest_count}
use Rattle.caster.specs.Floors.{InRange, floor_of}
use Rattle.plain_model.specs.Making.{plan_for}
use Rattle.plain_model.specs.Plans.{SoundPlan, honest_total}

-- What is known of every draft.
pub record Drafted (s : DraftState) : Type 0 where
  pub in_range : InRange (floor_of s)
  pub byzantine : IsTolerated s.n s.t s.byzantine
  pub byzantines : s.t ≤ s.n

-- The Byzantine consoles are all on the floor.
on_floor : (n m : ℕ) → n ≤ 32 → m < 2 ^ n → bit_and (first_mask n) m ≡ m
on_floor n m few within =
    same_members _ _ (λ k. has_and (first_mask n) m k ∙ ap (λ b. b && has m k) (has_first_mask n k) ∙ at k (has m k) refl)
  where
    at : (k : ℕ) (b : Bool) → has m k ≡ b → ((ltb k n && ltb k 32) && has m k) ≡ has m k
    at k true e =
        let below = within_from_lt n m within k e in
        rw (lt-ltb k n below, lt-ltb k 32 (omega arith)) refl
    at k false e = rw e (grind (arith, nat_tests))

-- The honest ones are the others.
pub honest_others : (s : DraftState) (q : PlainThresholds) → Drafted s → honest_total (plan_for s q) ≡ honest_count s
honest_others s q d =
    let n = s.n in let m = s.byzantine.mask in
    omega (arith, ones_rest (first_mask n) m, ones_first_mask n, ap ones (on_floor n m d.in_range.few_consoles d.byzantine.within), d.in_range.few_consoles)

pub made_sound :
    (s : DraftState) (q : PlainThresholds) → Drafted s → Borne (Plain q) s.n s.t s.d → SoundPlan (plan_for s q)
made_sound s q d borne =
    let same = honest_others s q d in
    record {
      few_consoles = d.in_range.few_consoles;
      few_sessions = d.in_range.few_sessions;
      few_numbers = d.in_range.few_numbers;
      byzantine_within = d.byzantine.within;
      honest_set = refl;
      tolerable = omega (arith, same, d.byzantine.tolerated, d.byzantines);
      rules = subst (PlainRules s.t s.d q.deliver q.forward) (sym same) (borne (honest_count s) (omega (arith, d.byzantine.tolerated)) (omega arith));
      figures = ap (figures_of (Plain q) s.n s.t s.d) (sym same);
    }
