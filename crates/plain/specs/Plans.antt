-- A plan by what it holds.
use Rattle.std.specs.Prelude.{Result}
use Rattle.std.specs.Result.{result_map_both}
use Rattle.floor.specs.declared.refusal.Refusal.{Refusal}
use Rattle.plain_tables.specs.declared.plan.Plan.{Plan}
use Rattle.plain.specs.declared.plain_plan.PlainPlan.{PlainPlan}

abbrev pub planned : Result PlainPlan Refusal → Result Plan Refusal
planned = result_map_both (λ made. made.plan) (λ refusal. refusal)
