use Rattle.std.proofs.Common.{pos, subst}
use Rattle.base_values.specs.declared.EditError.TheVariants.{InvalidRow}
use Rattle.sheet_grid.specs.Lines.{SameBut}
use Rattle.sheet_grid.specs.Sheet.{Sheet}
use Rattle.sheet_grid.proofs.LineLemmas.{same_but-after}
use Rattle.sheet_grid.proofs.worksheet.Worksheet.delete_row_style.Goals as goal

pub returns-clause-others : goal.returns-clause-others
returns-clause-others c =
    subst (λ (old : Sheet). SameBut c.args.row old.rows c.set_line_style.new.lines) c.self.view_is
    (same_but-after (pos 1048576) c.args.row c.in_ok-line.line InvalidRow c.self.inside.rows c.set_line_style.new.lines _ c.set_line_style.result c.ranges.row c.in_ok-line.ensures.line c.set_line_style.ensures.ok c.set_line_style.ensures.err)
