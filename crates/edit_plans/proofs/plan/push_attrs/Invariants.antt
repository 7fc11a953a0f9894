use Rattle.std.specs.Map.Iter.{deref_pair}
use Rattle.edit_plans.specs.SheetPlans.{attr_change}
use Rattle.edit_plans.proofs.PlanLoops.{Adds}
use Rattle.edit_plans.proofs.plan.push_attrs.Given as goal

-- the changes of the entries seen stand behind the others
abbrev pub invariant-loop-line : goal.invariant-loop-line
invariant-loop-line g l = Adds deref_pair (attr_change l.fn.id l.fn.axis l.fn.lines) l.fn.plan l.initial.list l.yielded l.line-iterator l.list
