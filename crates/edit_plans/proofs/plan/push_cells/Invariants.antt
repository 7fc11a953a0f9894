use Rattle.std.specs.Map.Iter.{deref_pair}
use Rattle.edit_plans.specs.SheetPlans.{cell_change}
use Rattle.edit_plans.proofs.PlanLoops.{Adds}
use Rattle.edit_plans.proofs.plan.push_cells.Given as goal

-- the changes of the entries seen stand behind the others
abbrev pub invariant-loop-place : goal.invariant-loop-place
invariant-loop-place l = Adds deref_pair (cell_change l.fn.id l.fn.cells) l.fn.plan l.initial.list l.yielded l.place-iterator l.list
