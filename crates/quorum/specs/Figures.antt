-- What a caster achieves among h honest consoles of n, with at most t Byzantine consoles and d lost copies of a message.
use Rattle.std.specs.Prelude.{◌≡◌, ℕ, ◌+◌, ◌-◌, ◌*◌, ◌/◌, ◌≤◌, Bool, cond, ◌&&◌, ◌||◌, Some, None, Option, Ok, Err, Result, nat_le, nat_lt}
use Rattle.std.specs.Option.{option_map_or}
use Rattle.quorum.specs.declared.figures.Figures.{Figures}
use Rattle.quorum.specs.declared.rules.Broken.{Broken}
use Rattle.quorum.specs.declared.rules.Rule.{Rule}
use Rattle.quorum.specs.declared.thresholds.Thresholds.{Thresholds}
use Rattle.quorum.specs.declared.thresholds.Thresholds.TheVariants.{Plain, Signed}
use Rattle.quorum.specs.Rules.{Borne, FirstBroken, RulesHold, broken_at, first_broken}

-- So many honest consoles are among any q.
abbrev pub backing_of : (n h q : ℕ) → ℕ
backing_of n h q = q + h - n

-- So many honest endorsers of a number have it delivered.
abbrev pub support_of : (d qd qf h : ℕ) → ℕ
support_of d qd qf h = h * (qf - 1) / (h - d - qd + qf) + 1

-- So many honest consoles deliver, once one has.
abbrev pub reach_of : (d qd h : ℕ) → ℕ
reach_of d qd h = h - h * d / (h - qd + 1)

-- Any two groups of q consoles share more than are Byzantine.
abbrev pub overlap : (n t q : ℕ) → Bool
overlap n t q = nat_lt (n + t) (2 * q)

abbrev pub figures_of : Thresholds → (n t d h : ℕ) → Figures
figures_of (Plain p) n t d h =
    record {
      backing = backing_of n h p.forward;
      support = support_of d p.deliver p.forward h;
      reach = reach_of d p.deliver h;
      voice = overlap n t p.forward || (p.single && overlap n t p.deliver);
    }
figures_of (Signed qd) n t d h =
    record { backing = backing_of n h qd; support = qd; reach = h - d; voice = overlap n t qd }

abbrev pub unless_broken : Option Rule → Figures → Option Figures
unless_broken None figures = Some figures
unless_broken (Some rule) figures = None

-- The figures, where h is a count that the floor may have and the rules hold there.
abbrev pub figures_at : Thresholds → (n t d h : ℕ) → Option Figures
figures_at th n t d h =
    cond (nat_le (n - t) h && nat_le h n) (unless_broken (broken_at th t d h) (figures_of th n t d h)) None

-- The figures, where the rules hold at every count that the floor may have; else where one fails first.
abbrev pub bears : Thresholds → (n t d h : ℕ) → Result Figures Broken
bears th n t d h = option_map_or Err (first_broken th n t d) (Ok (figures_of th n t d h))

-- The caster keeps its rules at h, and achieves these figures.
pub record Achieved (th : Thresholds) (n t d h : ℕ) (figures : Figures) : Type 0 where
  pub least : n - t ≤ h
  pub most : h ≤ n
  pub rules : RulesHold th t d h
  pub value : figures ≡ figures_of th n t d h

-- What an answer says of the caster.
abbrev pub FiguresMean : Thresholds → (n t d h : ℕ) → Option Figures → Type 0
FiguresMean th n t d h None = n - t ≤ h → h ≤ n → RulesHold th t d h → ⊥
FiguresMean th n t d h (Some figures) = Achieved th n t d h figures

-- The same where every count that the floor may have is asked of.
abbrev pub BearingMeans : Thresholds → (n t d h : ℕ) → Result Figures Broken → Type 0
BearingMeans th n t d h (Ok figures) = Borne th n t d × (figures ≡ figures_of th n t d h)
BearingMeans th n t d h (Err broken) = FirstBroken th n t d broken
