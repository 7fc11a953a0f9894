use Rattle.std.proofs.Common.{arith}
use Rattle.line_edits.specs.Edit.{goes_to, moved_by}
use Rattle.line_edits.proofs.Casts.{casts}
use Rattle.line_edits.proofs.edit.passed.Goals as goal

pub returns-then-is_in_block-clause-value : goal.returns-then-is_in_block-clause-value
unfolding goes_to moved_by
returns-then-is_in_block-clause-value c = grind (arith, casts)

pub returns-then-is_passed_down-clause-value : goal.returns-then-is_passed_down-clause-value
unfolding goes_to moved_by
returns-then-is_passed_down-clause-value c = grind (arith, casts)

pub returns-then-is_passed_up-clause-value : goal.returns-then-is_passed_up-clause-value
unfolding goes_to moved_by
returns-then-is_passed_up-clause-value c = grind (arith, casts)

pub returns-clause-value : goal.returns-clause-value
unfolding goes_to moved_by
returns-clause-value c = grind (arith, casts)
