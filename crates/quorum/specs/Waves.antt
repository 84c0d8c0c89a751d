-- Why the plain caster's rules and figures are right: what follows from counting endorsements, for numbers of any size.
use Rattle.std.specs.Prelude.{◌≡◌, ℕ, ◌+◌, ◌-◌, ◌*◌, ◌<◌, ◌≤◌, ◌⊎◌}
use Rattle.quorum.specs.Figures.{backing_of, support_of, reach_of}
use Rattle.quorum.specs.Rules.{PlainRules, SignedRules}

-- The plain caster's rules at h honest consoles, without the fourth where no console is Byzantine.
pub record Amplifying (t d qd qf h : ℕ) : Type 0 where
  pub witnessed : t < qf
  pub ordered : qf ≤ qd
  pub attainable : qd ≤ h - d
  pub amplified : (h * (qf - 1) < (h - d - qd + qf) * (qd - 1)) ⊎ (t ≡ 0)
  pub sustained : h * (qf - 1) ≤ (qd - 1 - t) * (h - d + qf - 1 - (qd - 1 - t))

-- One number on a floor where no copy is under way: x honest consoles have endorsed it, b honest consoles heard it from
-- at least qf consoles, and l from at least qd. Of each endorsement at least h − d honest consoles hold a copy; the two
-- bounds count these copies by who holds them.
pub record Wave (d qd qf h x b l : ℕ) : Type 0 where
  pub nested : l ≤ b
  pub forwarded : b ≤ x
  pub honest : x ≤ h
  pub by_forwarders : x * (h - d) ≤ b * x + (h - b) * (qf - 1)
  pub by_deliverers : x * (h - d) ≤ l * x + (b - l) * (qd - 1) + (h - b) * (qf - 1)

abbrev pub RulesAmplify : Type 0
RulesAmplify = (t d qd qf h : ℕ) → PlainRules t d qd qf h → Amplifying t d qd qf h

-- Endorsements that suffice to deliver with the help of t Byzantine consoles come to suffice without it.
abbrev pub Amplification : Type 0
Amplification =
    (t d qd qf h x b l : ℕ) → Amplifying t d qd qf h → Wave d qd qf h x b l → qd ≤ x + t → qd ≤ x

-- Once qd honest consoles have endorsed a number, as many as the reach hear enough to deliver.
abbrev pub Reaches : Type 0
Reaches =
    (t d qd qf h x b l : ℕ) → Amplifying t d qd qf h → Wave d qd qf h x b l → qd ≤ x → reach_of d qd h ≤ l

-- Once as many honest consoles as the support have endorsed a number, one hears enough to deliver.
abbrev pub Supports : Type 0
Supports =
    (t d qd qf h x b l : ℕ) → Amplifying t d qd qf h → Wave d qd qf h x b l → support_of d qd qf h ≤ x → 1 ≤ l

-- The figures of a caster that keeps its rules are at least 1, where at most t of the n consoles are not among the h honest ones.
pub record Positive : Type 0 where
  pub plain :
      (n t d qd qf h : ℕ) → h ≤ n → n ≤ h + t → Amplifying t d qd qf h
      → (1 ≤ backing_of n h qf) × (1 ≤ support_of d qd qf h) × (1 ≤ reach_of d qd h)
  pub signed :
      (n t d qd h : ℕ) → h ≤ n → n ≤ h + t → SignedRules t d qd h
      → (1 ≤ backing_of n h qd) × (1 ≤ qd) × (1 ≤ h - d)

-- What it takes that no two numbers are delivered.
pub record Voices : Type 0 where
  -- two groups of as many honest consoles as stand behind q do not fit into the honest ones
  pub apart : (n t h q : ℕ) → h ≤ n → n ≤ h + t → n + t < 2 * q → h < 2 * backing_of n h q
  -- two groups of q consoles share more than are Byzantine
  pub shared : (n t q : ℕ) → n + t < 2 * q → t < q + q - n

-- Of any q consoles, k of them Byzantine, at least as many as the backing are honest.
abbrev pub Backs : Type 0
Backs = (n h q k : ℕ) → h + k ≤ n → backing_of n h q ≤ q - k

-- What figures promise: the theorems above that speak of them.
pub record FiguresPromise : Type 0 where
  pub positive : Positive
  pub backs : Backs
  pub supports : Supports
  pub reaches : Reaches
  pub voices : Voices
