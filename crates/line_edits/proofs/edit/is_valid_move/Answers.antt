use Rattle.std.proofs.Common.{arith}
use Rattle.std.proofs.lemmas.Int.{to_z-of_z}
use Rattle.line_edits.specs.Edit.{is_valid}
use Rattle.line_edits.proofs.edit.is_valid_move.Goals as goal

pub returns : goal.returns
unfolding is_valid
returns c = grind (arith, to_z-of_z)
