use Rattle.std.proofs.Common.{◌∙◌, sym, arith}
use Rattle.std.proofs.lemmas.Int.{ints}
use Rattle.formula_tree.proofs.Casts.{narrowed, inside_lines, stands_at}
use Rattle.formula_tree.proofs.corner.corner_at.Goals as goal

pub returns-clause-at : goal.returns-clause-at
returns-clause-at c =
    let inside = sym c.is_inside.ensures ∙ c.if-not-is_inside.false in
    let lines = inside_lines c.args.place c.args.corner inside in
    let column_high = lines.column_high in
    stands_at c.args.place c.args.corner _ _ inside
    (narrowed _ _ c.corner_row.ensures lines.row_low lines.row_high)
    (narrowed _ _ c.corner_column.ensures lines.column_low (omega (arith, ints)))

pub returns-clause-inside : goal.returns-clause-inside
returns-clause-inside c =
    let lines = inside_lines c.args.place c.args.corner (sym c.is_inside.ensures ∙ c.if-not-is_inside.false) in
    let row_low = lines.row_low in
    let row_high = lines.row_high in
    let column_low = lines.column_low in
    let column_high = lines.column_high in
    let at_row = c.corner_row.ensures in
    let at_column = c.corner_column.ensures in
    ((omega (arith, ints), omega (arith, ints)), (omega (arith, ints), omega (arith, ints)))
