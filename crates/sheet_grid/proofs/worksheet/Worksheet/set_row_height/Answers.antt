use Rattle.std.proofs.Common.{pos, Some, subst, w32, to_z, of_z}
use Rattle.std.specs.FinMap.{get}
use Rattle.base_values.specs.declared.EditError.TheVariants.{InvalidRow}
use Rattle.sheet_grid.specs.Lines.{attr_of, with_size, SameBut}
use Rattle.sheet_grid.specs.Sheet.{Sheet}
use Rattle.sheet_grid.proofs.LineLemmas.{same_but-after}
use Rattle.sheet_grid.proofs.worksheet.Worksheet.set_row_height.Goals as goal

pub returns-clause-others : goal.returns-clause-others
returns-clause-others c =
    let entry = Some (with_size (Some (to_z w32 (of_z w32 c.in_ok-size.size))) (attr_of (get c.self.inside.rows (to_z w32 (of_z w32 c.in_ok-line.line))))) in
    subst (λ (old : Sheet). SameBut c.args.row old.rows c.set_size.new.lines) c.self.view_is
    (same_but-after (pos 1048576) c.args.row c.in_ok-line.line InvalidRow c.self.inside.rows c.set_size.new.lines entry c.set_size.result c.ranges.row c.in_ok-line.ensures.line c.set_size.ensures.ok c.set_size.ensures.err)
