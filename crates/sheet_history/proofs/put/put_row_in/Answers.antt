use Rattle.std.proofs.Common.{Option, pos, ap, subst, w32, SFits, ◌∙◌}
use Rattle.std.specs.Option.{option_map}
use Rattle.sheet_grid.specs.Lines.{stored_line, line_of_row}
use Rattle.std.proofs.lemmas.Int.{to_z-of_z}
use Rattle.base_values.specs.declared.EditError.TheVariants.{InvalidRow}
use Rattle.base_values.specs.Answers.{Changes, map_ok}
use Rattle.base_values.specs.KeyMap.{with_entry}
use Rattle.base_values.specs.Places.{line_of}
use Rattle.sheet_grid.specs.declared.LineAttr.{LineAttr}
use Rattle.sheet_grid.specs.declared.RowAttr.{RowAttr}
use Rattle.sheet_history.proofs.KeptAttributes.{kept_row}
use Rattle.sheet_history.proofs.put.put_row_in.Goals as goal

pub returns : goal.returns
returns c =
    let row_fits : SFits w32 c.args.row = c.ranges.row in
    let changes =
    subst (λ (entry : Option LineAttr). Changes c.put_row.result c.args.sheet.now c.put_row.new.self
    (map_ok (λ line. record c.args.sheet.now { rows = with_entry c.args.sheet.now.rows line entry }) (line_of (pos 1048576) c.args.row InvalidRow)))
    (ap (λ (attr : Option RowAttr). stored_line (option_map line_of_row attr)) (c.in_ok-attr.ensures {u = _}).output ∙ kept_row c.args.entry.now c.requires) (simp to_z-of_z at c.put_row.ensures.put) in
    record { done = changes.done; refused = changes.refused }
