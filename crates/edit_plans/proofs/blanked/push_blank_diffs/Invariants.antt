use Rattle.std.specs.Map.Iter.{deref_pair}
use Rattle.edit_plans.specs.laws.EditRecords.{blank_diff}
use Rattle.edit_plans.proofs.Blanks.{Adds}
use Rattle.edit_plans.proofs.blanked.push_blank_diffs.Given as goal

abbrev pub invariant-loop-place : goal.invariant-loop-place
invariant-loop-place l = Adds deref_pair (blank_diff l.fn.sheet.id l.fn.area) l.fn.sheet.cells l.initial.list l.yielded l.place-iterator l.list
