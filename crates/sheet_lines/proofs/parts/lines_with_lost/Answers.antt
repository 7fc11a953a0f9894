use Rattle.std.proofs.Common.{sym, ◌∙◌}
use Rattle.std.specs.Cmp.{int_cmp_total}
use Rattle.std.specs.FinMap.{int_cmp-IsAntisymmetric}
use Rattle.line_map.specs.laws.UnderLaws.{rekeyed_own}
use Rattle.sheet_lines.proofs.parts.lines_with_lost.Goals as goal

pub returns-clause-lost : goal.returns-clause-lost
returns-clause-lost g c = sym (rekeyed_own int_cmp_total int_cmp-IsAntisymmetric _) ∙ c.in_ok-lines.ensures.lost
