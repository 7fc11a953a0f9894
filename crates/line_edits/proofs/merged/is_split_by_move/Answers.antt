use Rattle.std.proofs.Common.{arith}
use Rattle.std.proofs.lemmas.Int.{to_z-of_z}
use Rattle.line_edits.specs.Splits.{splits}
use Rattle.line_edits.proofs.merged.is_split_by_move.Goals as goal

pub returns : goal.returns
unfolding splits
returns c = grind (arith, to_z-of_z)
