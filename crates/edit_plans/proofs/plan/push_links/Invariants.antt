use Rattle.std.specs.Map.Iter.{deref_pair}
use Rattle.edit_plans.specs.SheetPlans.{link_change}
use Rattle.edit_plans.proofs.PlanLoops.{Adds}
use Rattle.edit_plans.proofs.plan.push_links.Given as goal

-- the changes of the entries seen stand behind the others
abbrev pub invariant-loop-place : goal.invariant-loop-place
invariant-loop-place l = Adds deref_pair (link_change l.fn.id l.fn.links) l.fn.plan l.initial.list l.yielded l.place-iterator l.list
