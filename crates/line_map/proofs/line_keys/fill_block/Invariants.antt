use Rattle.std.proofs.Common.{Some}
use Rattle.line_map.specs.Attributes.{lines_from}
use Rattle.line_map.specs.laws.HeirLaws.{Filled}
use Rattle.line_map.proofs.line_keys.fill_block.Given as goal

abbrev pub invariant-loop-i : goal.invariant-loop-i
invariant-loop-i g l = Filled (lines_from g.B.Axis.along.last l.fn.block.first l.i) (Some l.fn.value) l.fn.map l.map
