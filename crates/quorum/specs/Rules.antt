-- What a caster's thresholds have to keep at g honest consoles, with at most t Byzantine consoles and d lost copies of a message.
-- Every number here and in the other files is a natural number of any size.
use Rattle.std.specs.Prelude.{ℕ, zero, suc, ◌+◌, ◌-◌, ◌*◌, ◌<◌, ◌≤◌, Bool, cond, Some, None, Option, nat_le, nat_lt}
use Rattle.quorum.specs.declared.rules.Broken.{Broken}
use Rattle.quorum.specs.declared.rules.Rule.{Rule}
use Rattle.quorum.specs.declared.rules.Rule.TheVariants.{Witnessed, Ordered, Attainable, Amplified, Sustained, Overlapping}
use Rattle.quorum.specs.declared.thresholds.Thresholds.{Thresholds}
use Rattle.quorum.specs.declared.thresholds.Thresholds.TheVariants.{Plain, Signed}

-- A plain caster delivers at qd endorsements of a number, and forwards it at qf.
pub record PlainRules (t d qd qf g : ℕ) : Type 0 where
  pub witnessed : t < qf
  pub ordered : qf ≤ qd
  pub attainable : qd ≤ g - d
  pub amplified : g * (qf - 1) < (g - d - qd + qf) * (qd - 1)
  pub sustained : g * (qf - 1) ≤ (qd - 1 - t) * (g - d + qf - 1 - (qd - 1 - t))

-- A signed caster delivers at qd signatures.
pub record SignedRules (t d qd g : ℕ) : Type 0 where
  pub overlapping : 2 * d < g
  pub attainable : qd ≤ g - d
  pub witnessed : t < qd

abbrev pub RulesHold : Thresholds → (t d g : ℕ) → Type 0
RulesHold (Plain p) t d g = PlainRules t d p.deliver p.forward g
RulesHold (Signed qd) t d g = SignedRules t d qd g

-- The rules hold at every count of honest consoles that n consoles may have.
abbrev pub Borne : Thresholds → (n t d : ℕ) → Type 0
Borne th n t d = (g : ℕ) → n - t ≤ g → g ≤ n → RulesHold th t d g

-- Where a test fails, its name; where it holds, what the later tests say.
abbrev pub unless : {A : Type 0} → Bool → A → Option A → Option A
unless holds name later = cond holds later (Some name)

abbrev pub plain_broken_at : (t d qd qf g : ℕ) → Option Rule
plain_broken_at t d qd qf g =
    unless (nat_lt t qf) Witnessed
    (unless (nat_le qf qd) Ordered
    (unless (nat_le qd (g - d)) Attainable
    (unless (nat_lt (g * (qf - 1)) ((g - d - qd + qf) * (qd - 1))) Amplified
    (unless (nat_le (g * (qf - 1)) ((qd - 1 - t) * (g - d + qf - 1 - (qd - 1 - t)))) Sustained
    None))))

abbrev pub signed_broken_at : (t d qd g : ℕ) → Option Rule
signed_broken_at t d qd g =
    unless (nat_lt (2 * d) g) Overlapping
    (unless (nat_le qd (g - d)) Attainable
    (unless (nat_lt t qd) Witnessed
    None))

-- The first rule that fails at g.
abbrev pub broken_at : Thresholds → (t d g : ℕ) → Option Rule
broken_at (Plain p) t d g = plain_broken_at t d p.deliver p.forward g
broken_at (Signed qd) t d g = signed_broken_at t d qd g

abbrev pub broken_or : ℕ → Option Rule → Option Broken → Option Broken
broken_or g None later = later
broken_or g (Some rule) later = Some (record { honest = g; rule = rule })

-- The first rule that fails at one of the k counts from g up.
abbrev pub broken_from : Thresholds → (t d g k : ℕ) → Option Broken
broken_from th t d g zero = None
broken_from th t d g (suc k) = broken_or g (broken_at th t d g) (broken_from th t d (g + 1) k)

-- The first rule that fails at a count from n − t to n.
abbrev pub first_broken : Thresholds → (n t d : ℕ) → Option Broken
first_broken th n t d = broken_from th t d (n - t) (n + 1 - (n - t))

abbrev pub PlainFailsFirst : (t d qd qf g : ℕ) → Rule → Type 0
PlainFailsFirst t d qd qf g Witnessed = qf ≤ t
PlainFailsFirst t d qd qf g Ordered = (t < qf) × (qd < qf)
PlainFailsFirst t d qd qf g Attainable = (t < qf) × (qf ≤ qd) × (g - d < qd)
PlainFailsFirst t d qd qf g Amplified =
    (t < qf) × (qf ≤ qd) × (qd ≤ g - d) × ((g - d - qd + qf) * (qd - 1) ≤ g * (qf - 1))
PlainFailsFirst t d qd qf g Sustained =
    (t < qf) × (qf ≤ qd) × (qd ≤ g - d) × (g * (qf - 1) < (g - d - qd + qf) * (qd - 1))
    × ((qd - 1 - t) * (g - d + qf - 1 - (qd - 1 - t)) < g * (qf - 1))
PlainFailsFirst t d qd qf g Overlapping = ⊥

abbrev pub SignedFailsFirst : (t d qd g : ℕ) → Rule → Type 0
SignedFailsFirst t d qd g Overlapping = g ≤ 2 * d
SignedFailsFirst t d qd g Attainable = (2 * d < g) × (g - d < qd)
SignedFailsFirst t d qd g Witnessed = (2 * d < g) × (qd ≤ g - d) × (qd ≤ t)
SignedFailsFirst t d qd g Ordered = ⊥
SignedFailsFirst t d qd g Amplified = ⊥
SignedFailsFirst t d qd g Sustained = ⊥

-- The rule fails at g, and those before it hold.
abbrev pub FailsFirst : Thresholds → (t d g : ℕ) → Rule → Type 0
FailsFirst (Plain p) t d g rule = PlainFailsFirst t d p.deliver p.forward g rule
FailsFirst (Signed qd) t d g rule = SignedFailsFirst t d qd g rule

-- A rule fails at a count in range, and none fails at a lower one.
pub record FirstBroken (th : Thresholds) (n t d : ℕ) (b : Broken) : Type 0 where
  pub least : n - t ≤ b.honest
  pub most : b.honest ≤ n
  pub fails : FailsFirst th t d b.honest b.rule
  pub here : RulesHold th t d b.honest → ⊥
  pub earlier : (g : ℕ) → n - t ≤ g → g < b.honest → RulesHold th t d g

-- What an answer says of the floor.
abbrev pub Verdict : Thresholds → (n t d : ℕ) → Option Broken → Type 0
Verdict th n t d None = Borne th n t d
Verdict th n t d (Some b) = FirstBroken th n t d b
