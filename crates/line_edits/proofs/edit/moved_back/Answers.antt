use Rattle.std.proofs.Common.{arith}
use Rattle.std.proofs.lemmas.Int.{ints, to_z-of_z}
use Rattle.line_edits.specs.Edit.{opposite_of}
use Rattle.line_edits.specs.laws.Images.{move_parts, IsMove}
use Rattle.line_edits.proofs.edit.moved_back.Goals as goal

pub returns : goal.returns
unfolding opposite_of
returns c = let v : IsMove c.args.last c.args.first c.args.count c.args.delta = move_parts c.args.last c.args.first c.args.count c.args.delta c.requires.valid in grind (arith, ints, to_z-of_z)
