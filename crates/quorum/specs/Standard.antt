-- The thresholds that a reliable broadcast takes for its two casters, unless it is given others.
use Rattle.std.specs.Prelude.{ℕ, ◌+◌, ◌*◌, ◌/◌, Bool, true, false}
use Rattle.quorum.specs.declared.thresholds.PlainThresholds.{PlainThresholds}

-- The thresholds of a plain caster by their two numbers, and whether it endorses one number only.
abbrev pub plain : (deliver forward : ℕ) → (single : Bool) → PlainThresholds
plain deliver forward single = record { deliver = deliver; forward = forward; single = single }

abbrev pub standard_echo : (n t : ℕ) → PlainThresholds
standard_echo n t = plain ((n + t) / 2 + 1) (t + 1) true

abbrev pub standard_ready : (t d : ℕ) → PlainThresholds
standard_ready t d = plain (2 * t + d + 1) (t + 1) false
