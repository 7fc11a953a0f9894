use Rattle.std.proofs.Common.{Option, pos, ap, subst, w32, SFits, ◌∙◌}
use Rattle.std.specs.Option.{option_map}
use Rattle.sheet_grid.specs.Lines.{stored_line, line_of_column}
use Rattle.std.proofs.lemmas.Int.{to_z-of_z}
use Rattle.base_values.specs.declared.EditError.TheVariants.{InvalidColumn}
use Rattle.base_values.specs.Answers.{Changes, map_ok}
use Rattle.base_values.specs.KeyMap.{with_entry}
use Rattle.base_values.specs.Places.{line_of}
use Rattle.sheet_grid.specs.declared.LineAttr.{LineAttr}
use Rattle.sheet_grid.specs.declared.ColumnAttr.{ColumnAttr}
use Rattle.sheet_history.proofs.KeptAttributes.{kept_column}
use Rattle.sheet_history.proofs.put.put_column_in.Goals as goal

pub returns : goal.returns
returns c =
    let column_fits : SFits w32 c.args.column = c.ranges.column in
    let changes =
    subst (λ (entry : Option LineAttr). Changes c.put_column.result c.args.sheet.now c.put_column.new.self
    (map_ok (λ line. record c.args.sheet.now { columns = with_entry c.args.sheet.now.columns line entry }) (line_of (pos 16384) c.args.column InvalidColumn)))
    (ap (λ (attr : Option ColumnAttr). stored_line (option_map line_of_column attr)) (c.in_ok-attr.ensures {u = _}).output ∙ kept_column c.args.entry.now c.requires) (simp to_z-of_z at c.put_column.ensures) in
    record { done = changes.done; refused = changes.refused }
