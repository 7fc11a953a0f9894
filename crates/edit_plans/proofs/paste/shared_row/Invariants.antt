use Rattle.std.proofs.Common.{◌≡◌, take}
use Rattle.edit_plans.proofs.paste.shared_row.Given as goal

abbrev pub invariant-loop-style : goal.invariant-loop-style
invariant-loop-style l = l.shared ≡ take l.style-index l.row
