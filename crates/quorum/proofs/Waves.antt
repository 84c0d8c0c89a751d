-- The theorems on waves. The lemmas above them are over plain numbers: s is what losses leave of the h honest consoles,
-- f is qf − 1, p is qd − 1, and c is h − d − qd + qf.
use Rattle.std.proofs.Common.{◌≡◌, ℕ, ◌+◌, ◌-◌, ◌*◌, ◌/◌, ◌<◌, ◌≤◌, ap, inl, inr, mul-le-mul_left, arith}
use native.Mathlib.Nat.{mul-lt-mul_of_pos_left, le_of_mul-le-mul_left}
use Rattle.std.proofs.lemmas.Nat.{le-div, div_below}
use Rattle.std.proofs.lemmas.Bool.{cases_lt}
use Rattle.quorum.specs.Waves.{Amplifying, Wave, RulesAmplify, Amplification, Reaches, Supports, Positive, Voices, Backs, FiguresPromise}

-- Large times large and small times small exceed the two mixed products.
rearranged : (a b c d : ℕ) → a ≤ b → c ≤ d → a * d + b * c ≤ a * c + b * d
rearranged a b c d p q =
    let u = b - a in let v = d - c in
    let eb : b ≡ a + u = omega arith in
    let ed : d ≡ c + v = omega arith in
    omega (arith, ap (λ (z : ℕ). a * z) ed, ap (λ (z : ℕ). z * c) eb, ap (λ (z : ℕ). z * d) eb, ap (λ (z : ℕ). u * z) ed)

-- A parabola z (m − z) that is at least k at y, and more than k at p, is more than k between the two.
parabola : (y x p m k : ℕ) → y < x → x ≤ p → p ≤ m → k ≤ y * (m - y) → k < p * (m - p) → x * (m - x) ≤ k → ⊥
parabola y x p m k after before within low high here =
    let i = x - y in let j = p - x in let w = m - p in
    let ex : x ≡ y + i = omega arith in
    let ep : p ≡ y + i + j = omega arith in
    let fy : m - y ≡ i + j + w = omega arith in
    let fx : m - x ≡ j + w = omega arith in
    let low' : k ≤ y * (i + j + w) = rw fy at low in
    let high' : k < (y + i + j) * w = omega (arith, ap (λ (z : ℕ). z * w) ep) in
    let here' : (y + i) * (j + w) ≤ k = omega (arith, ap (λ (z : ℕ). z * (j + w)) ex, ap (λ (z : ℕ). x * z) fx) in
    omega (arith, mul-le-mul_left j low', mul-le-mul_left i high', mul-le-mul_left (i + j) here')

-- The copies of x endorsers are at most as many as if each endorser were one of the b that heard it from qf consoles.
bound_by_forwarders :
    (h s f x b : ℕ) → b ≤ x → x ≤ h → f ≤ x → x * s ≤ b * x + (h - b) * f → x * s + x * f ≤ h * f + x * x
bound_by_forwarders h s f x b forwarded honest low count =
    let eh : h ≡ b + (h - b) = omega arith in
    omega (arith, rearranged b x f x forwarded low, ap (λ (z : ℕ). z * f) eh)

-- The same with l deliverers counted apart.
bound_by_deliverers :
    (h s f p c x b l : ℕ) → l ≤ b → b ≤ x → x ≤ h → f ≤ p → c + p ≡ s + f
    → x * s ≤ l * x + (b - l) * p + (h - b) * f → x * c + l * p ≤ l * x + h * f
bound_by_deliverers h s f p c x b l nested forwarded honest low sum count =
    let eh : h ≡ b + (h - b) = omega arith in
    let eb : b ≡ l + (b - l) = omega arith in
    omega
    (arith, rearranged b x f p forwarded low, ap (λ (z : ℕ). z * f) eh, ap (λ (z : ℕ). z * p) eb, ap (λ (z : ℕ). x * z) sum)

-- The honest share y of qd − 1, for which the fifth rule holds, is no less than f.
share : (d s f y : ℕ) → y < s → (s + d) * f ≤ y * (s + f - y) → f ≤ y
share d s f y low sustained =
    elim (cases_lt y f) [
      | inl less ↦
          let e : s + f ≡ y + (s + f - y) = omega arith in
          omega (arith, rearranged (y + 1) f (y + 1) s (omega arith) (omega arith), ap (λ (z : ℕ). y * z) e)
      | inr enough ↦ enough
    ]

-- The rules are those of the theorems.
pub rules_amplify : RulesAmplify
rules_amplify t d qd qf h r =
    record {
      witnessed = r.witnessed;
      ordered = r.ordered;
      attainable = r.attainable;
      amplified = inl r.amplified;
      sustained = r.sustained;
    }

-- A wave does not come to rest at a number x of endorsers past the honest share y of qd − 1, up to qd − 1 itself.
unrest :
    (h d s f p y x : ℕ) → h ≡ s + d → y < x → x ≤ p → p < s
    → h * f ≤ y * (s + f - y) → h * f < p * (s + f - p) → (f ≤ x → x * s + x * f ≤ h * f + x * x) → ⊥
unrest h d s f p y x split after before below sustained amplified count =
    let low : f ≤ y = share d s f y (omega arith) (rw split at sustained) in
    let e : s + f ≡ x + (s + f - x) = omega arith in
    let rest : x * (s + f - x) ≤ h * f = omega (arith, count (omega arith), ap (λ (z : ℕ). x * z) e) in
    parabola y x p (s + f) (h * f) after before (omega arith) sustained amplified rest

-- Short of qd the wave would be at rest where it cannot be.
pub amplification : Amplification
amplification t d qd qf h x b l a w helped =
    elim (cases_lt x qd) [
      | inr enough ↦ enough
      | inl short ↦ elim a.amplified [
        | inr none ↦ omega arith
        | inl amplified ↦
            let e : h - d + qf - 1 ≡ h - d + (qf - 1) = omega arith in
            let f : h - d - qd + qf ≡ h - d + (qf - 1) - (qd - 1) = omega arith in
            absurd
            (unrest h d (h - d) (qf - 1) (qd - 1) (qd - 1 - t) x (omega arith) (omega arith) (omega arith) (omega arith)
            (rw e at a.sustained)
            (omega (arith, ap (λ (z : ℕ). z * (qd - 1)) f))
            (λ low. bound_by_forwarders h (h - d) (qf - 1) x b w.forwarded w.honest low w.by_forwarders))
      ]
    ]

-- The deliverers' bound, at the thresholds of a wave.
delivered :
    (t d qd qf h x b l : ℕ) → Amplifying t d qd qf h → Wave d qd qf h x b l
    → x * (h - d - qd + qf) + l * (qd - 1) ≤ l * x + h * (qf - 1)
delivered t d qd qf h x b l a w =
    bound_by_deliverers h (h - d) (qf - 1) (qd - 1) (h - d - qd + qf) x b l w.nested w.forwarded w.honest (omega arith)
    (omega arith) w.by_deliverers

-- The fourth rule without its strictness, which the fifth has too where no console is Byzantine.
amplified_or_level : (t d qd qf h : ℕ) → Amplifying t d qd qf h → h * (qf - 1) ≤ (h - d - qd + qf) * (qd - 1)
amplified_or_level t d qd qf h a =
    elim a.amplified [
      | inl amplified ↦ omega arith
      | inr none ↦
          let e : h - d + qf - 1 - (qd - 1 - t) ≡ h - d - qd + qf = omega arith in
          let f : qd - 1 - t ≡ qd - 1 = omega arith in
          omega (arith, a.sustained, ap (λ (z : ℕ). (qd - 1 - t) * z) e, ap (λ (z : ℕ). z * (h - d - qd + qf)) f)
    ]

-- With e endorsers past qd − 1, of g that there could be, the copies bound the deliverers from below.
spread :
    (h d f p c e g l : ℕ) → h ≡ p + g → c + d ≡ f + g → 0 < e → e ≤ g → h * f ≤ c * p → (p + e) * c ≤ l * e + h * f
    → h * g ≤ g * l + h * d
spread h d f p c e g l split sum some among level count =
    le_of_mul-le-mul_left {k = e}
    (omega (
      arith,
      mul-le-mul_left g count,
      rearranged e g (h * f) (c * p) among level,
      ap (λ (z : ℕ). e * h * z) sum,
      ap (λ (z : ℕ). e * c * z) split,
    ))
    some

-- A bound on the share of h that is missed is one on the rest.
from_share : (h d g l : ℕ) → 0 < g → l ≤ h → h * g ≤ g * l + h * d → h - h * d / g ≤ l
from_share h d g l some among bound =
    let rest : h ≡ l + (h - l) = omega arith in
    omega (arith, le-div (h - l) (h * d) g some (omega (arith, ap (λ (z : ℕ). z * g) rest)))

-- The more endorsers, the weaker the bound on the deliverers; with all h of them it is the reach.
pub reaches : Reaches
reaches t d qd qf h x b l a w enough =
    let c = h - d - qd + qf in let e = x - (qd - 1) in
    let split : x ≡ qd - 1 + e = omega arith in
    from_share h d (h - qd + 1) l (omega arith) (omega arith)
    (spread h d (qf - 1) (qd - 1) c e (h - qd + 1) l (omega arith) (omega arith) (omega arith) (omega arith)
    (amplified_or_level t d qd qf h a)
    (omega (arith, delivered t d qd qf h x b l a w, ap (λ (z : ℕ). z * c) split, ap (λ (z : ℕ). l * z) split)))

-- Without a deliverer the copies allow fewer endorsers than the support.
pub supports : Supports
supports t d qd qf h x b l a w enough =
    elim (cases_lt 0 l) [
      | inl some ↦ some
      | inr none ↦
          let c = h - d - qd + qf in
          let zero : l ≡ 0 = omega arith in
          let count : x * c ≤ h * (qf - 1) = omega (arith, delivered t d qd qf h x b l a w, ap (λ (z : ℕ). z * x) zero) in
          let most : x ≤ h * (qf - 1) / c = le-div x (h * (qf - 1)) c (omega arith) count in
          omega arith
    ]

-- Not all honest consoles can be kept from delivering.
pub missed_below : (d qd h : ℕ) → 0 < qd → qd ≤ h - d → h * d / (h - qd + 1) < h
missed_below d qd h some attainable =
    div_below (h * d) (h - qd + 1) h (omega arith) (mul-lt-mul_of_pos_left {k = h} (omega arith) (omega arith))

-- Each figure is at least 1.
pub positive : Positive
positive =
    record {
      plain = λ n t d qd qf h within most a.
          (omega arith, omega arith, omega (arith, missed_below d qd h (omega arith) a.attainable));
      signed = λ n t d qd h within most r. (omega arith, omega arith, omega arith);
    }

-- Two groups of q consoles share an honest one.
pub voices : Voices
voices = record { apart = λ n t h q within most loud. omega arith; shared = λ n t q loud. omega arith }

-- Byzantine consoles are at most those that are not honest.
pub backs : Backs
backs n h q k within = omega arith

pub promised : FiguresPromise
promised = record { positive = positive; backs = backs; supports = supports; reaches = reaches; voices = voices }
