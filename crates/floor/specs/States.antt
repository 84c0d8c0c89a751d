-- A draft by its state, and a plan by the draft that it makes.
use Rattle.std.specs.Prelude.{Result}
use Rattle.std.specs.Result.{result_map_both}
use Rattle.floor.specs.declared.draft.Draft.{Draft}
use Rattle.floor.specs.declared.draft.DraftPlan.{DraftPlan}
use Rattle.floor.specs.declared.refusal.Refusal.{Refusal}
use Rattle.floor.specs.Drafts.{DraftState, holding, new_draft}

abbrev pub state_of : Draft → DraftState
state_of x = holding x.counts x.capacity x.marked x.sessions.items

abbrev pub plan_of : DraftPlan → DraftState
plan_of p = new_draft p.counts.consoles p.counts.byzantine p.counts.lost p.capacity

abbrev pub planned : Result DraftPlan Refusal → Result DraftState Refusal
planned = result_map_both plan_of (λ refusal. refusal)
