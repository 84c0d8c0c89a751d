-- What a plain caster is made of, from a draft and thresholds.
use Rattle.std.specs.Prelude.{◌*◌, List, [], ◌∷◌, is_some, Result}
use Rattle.quorum.specs.Figures.{figures_of}
use Rattle.quorum.specs.Rules.{first_broken}
use Rattle.quorum.specs.declared.thresholds.PlainThresholds.{PlainThresholds}
use Rattle.quorum.specs.declared.thresholds.Thresholds.TheVariants.{Plain}
use Rattle.floor.specs.Drafts.{DraftState, honest_count}
use Rattle.floor.specs.Refusals.{Check, check, first_found, answer}
use Rattle.floor.specs.declared.refusal.Refusal.{Refusal}
use Rattle.floor.specs.declared.refusal.Refusal.TheVariants.{ThresholdRule}
use Rattle.caster.specs.Floors.{floor_of, honest_consoles}
use Rattle.plain_tables.specs.Tables.{empty_tables}
use Rattle.plain_tables.specs.declared.plan.Plan.{Plan}
use Rattle.plain_tables.specs.declared.tables.Tables.{Tables}
use Rattle.plain_model.specs.Plans.{honest_total}

abbrev pub plan_for : DraftState → PlainThresholds → Plan
plan_for s thresholds = record {
  floor = floor_of s;
  tolerated = s.t;
  setting = record { honest = honest_consoles (floor_of s); thresholds = thresholds };
  figures = figures_of (Plain thresholds) s.n s.t s.d (honest_count s);
}

-- the thresholds keep their rules at each count of honest consoles that the floor may have
abbrev pub plan_checks : DraftState → PlainThresholds → List Check
plan_checks s thresholds = check (is_some (first_broken (Plain thresholds) s.n s.t s.d)) ThresholdRule ∷ []

abbrev pub plan_answer : DraftState → PlainThresholds → Result Plan Refusal
plan_answer s thresholds = answer (first_found (plan_checks s thresholds)) (plan_for s thresholds)

-- nothing has happened, and each honest console's copy of each number in each session to each honest console can come
abbrev pub new_tables : Plan → Tables
new_tables p = empty_tables (p.floor.sessions * (p.floor.capacity * (honest_total p * honest_total p)))
