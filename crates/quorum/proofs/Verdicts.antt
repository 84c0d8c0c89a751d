-- What the answers of `broken` and `figures` mean: at one count of honest consoles, and over a range of them.
use Rattle.std.proofs.Common.{◌≡◌, ℕ, zero, suc, ◌+◌, ◌-◌, ◌<◌, ◌≤◌, Some, None, Option, sym, refl, subst, inl, inr, arith, MatchOption}
use Rattle.std.proofs.lemmas.Bool.Decides.{nat_tests}
use Rattle.std.proofs.lemmas.Bool.{cases_eq}
use Rattle.quorum.specs.declared.figures.Figures.{Figures}
use Rattle.quorum.specs.declared.rules.Broken.{Broken}
use Rattle.quorum.specs.declared.rules.Rule.{Rule}
use Rattle.quorum.specs.declared.thresholds.Thresholds.{Thresholds}
use Rattle.quorum.specs.Figures.{FiguresMean, figures_at}
use Rattle.quorum.specs.Rules.{Borne, broken_at, broken_or, broken_from, first_broken, RulesHold, FailsFirst, Verdict}

-- The rule that is named is the first to fail, and where none is named the rules hold.
pub broken_tells : (th : Thresholds) (t d g : ℕ) → MatchOption (broken_at th t d g) (RulesHold th t d g) (FailsFirst th t d g)
broken_tells th t d g = grind (arith, nat_tests)

-- For proofs that have an answer in hand.
pub unbroken_holds : (th : Thresholds) (t d g : ℕ) → broken_at th t d g ≡ None → RulesHold th t d g
unbroken_holds th t d g e =
    subst (λ (o : Option Rule). MatchOption o (RulesHold th t d g) (FailsFirst th t d g)) e (broken_tells th t d g)

-- A rule that fails first does fail.
fails_not_holds : (th : Thresholds) (t d g : ℕ) (rule : Rule) → FailsFirst th t d g rule → RulesHold th t d g → ⊥
fails_not_holds th t d g rule fails holds = grind arith

-- What an answer says of the counts from low to below high.
Told : (th : Thresholds) (t d low high : ℕ) → Option Broken → Type 0
Told th t d low high None = (g : ℕ) → low ≤ g → g < high → RulesHold th t d g
Told th t d low high (Some b) =
    (low ≤ b.honest) × (b.honest < high) × FailsFirst th t d b.honest b.rule
    × ((g : ℕ) → low ≤ g → g < b.honest → RulesHold th t d g)

module _ (th : Thresholds) (t d : ℕ) where
  -- What holds at low and above it holds from low on.
  from_low :
      (P : ℕ → Type 0) (low high : ℕ) → P low → ((g : ℕ) → low + 1 ≤ g → g < high → P g)
      → (g : ℕ) → low ≤ g → g < high → P g
  from_low P low high here above g least less =
      elim (cases_eq low g) [
        | inl same ↦ subst P same here
        | inr other ↦ above g (omega arith) less
      ]

  -- One count more, below the others.
  told_one_more :
      (low high : ℕ) (o : Option Rule) (later : Option Broken) → low < high
      → MatchOption o (RulesHold th t d low) (FailsFirst th t d low)
      → Told th t d (low + 1) high later → Told th t d low high (broken_or low o later)
  unfolding Told
  told_one_more low high (Some rule) later less fails told = (omega arith, less, fails, λ g least below. absurd (omega arith))
  told_one_more low high None None less holds told = from_low (RulesHold th t d) low high holds told
  told_one_more low high None (Some b) less holds told =
      (omega arith, told.1, told.2, from_low (RulesHold th t d) low b.honest holds told.3)

  told_from : (low k : ℕ) → Told th t d low (low + k) (broken_from th t d low k)
  unfolding Told
  told_from low zero = λ g least less. absurd (omega arith)
  told_from low (suc k) =
      told_one_more low (low + suc k) (broken_at th t d low) (broken_from th t d (low + 1) k) (omega arith) (broken_tells th t d low)
      (subst (λ (high : ℕ). Told th t d (low + 1) high (broken_from th t d (low + 1) k)) (omega arith) (told_from (low + 1) k))

  verdict_of : (n : ℕ) (r : Option Broken) → Told th t d (n - t) (n - t + (n + 1 - (n - t))) r → Verdict th n t d r
  unfolding Told
  verdict_of n None told = λ g least most. told g least (omega arith)
  verdict_of n (Some b) told =
      record {
        least = told.0;
        most = omega arith;
        fails = told.2;
        here = fails_not_holds th t d b.honest b.rule told.2;
        earlier = told.3;
      }

  -- The answer over the whole range means what it should.
  pub verdict : (n : ℕ) (r : Option Broken) → r ≡ first_broken th n t d → Verdict th n t d r
  verdict n r e = verdict_of n r (subst (Told th t d (n - t) _) (sym e) (told_from (n - t) (n + 1 - (n - t))))

  -- Thresholds that keep their rules are broken nowhere.
  pub unbroken : (n : ℕ) (r : Option Broken) → r ≡ first_broken th n t d → Borne th n t d → r ≡ None
  unbroken n None e borne = refl
  unbroken n (Some b) e borne =
      let first = verdict n (Some b) e in absurd (first.here (borne b.honest first.least first.most))

  -- A count at which a rule fails answers.
  pub broken_here :
      (n g : ℕ) (rule : Rule) → g ≤ n → broken_at th t d g ≡ Some rule
      → broken_from th t d g (n + 1 - g) ≡ Some (record { honest = g; rule = rule })
  broken_here n g rule most fails =
      let e : n + 1 - g ≡ suc (n - g) = omega arith in rw (e, fails)

  -- A count at which none fails leaves it to the next.
  pub broken_later :
      (n g : ℕ) → g ≤ n → broken_at th t d g ≡ None
      → broken_from th t d g (n + 1 - g) ≡ broken_from th t d (g + 1) (n + 1 - (g + 1))
  broken_later n g most holds =
      let e : n + 1 - g ≡ suc (n + 1 - (g + 1)) = omega arith in rw (e, holds)

-- Figures are given exactly where the count is in range and the rules hold.
pub figures_mean :
    (th : Thresholds) (n t d h : ℕ) (r : Option Figures) → r ≡ figures_at th n t d h → FiguresMean th n t d h r
figures_mean th n t d h r e = grind (arith, nat_tests)
