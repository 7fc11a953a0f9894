use Rattle.line_edits.specs.laws.Singles.{moves_line_by_line}
use Rattle.line_edits.proofs.laws.move_by_single_lines.Goals as goal

pub returns : goal.returns
returns g c = moves_line_by_line g.A.Axis.along.last c.args.first c.args.count c.args.delta c.requires
