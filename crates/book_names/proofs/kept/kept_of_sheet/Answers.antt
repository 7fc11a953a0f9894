use Rattle.std.proofs.Common.{sym, subst}
use Rattle.std.proofs.lemmas.Result.{IfOk-weaker}
use Rattle.sheet_lines.specs.Back.{AreCanonicalFormulas}
use Rattle.book_names.specs.laws.Numbers.{cells_kept_numbers}
use Rattle.book_names.proofs.kept.kept_of_sheet.Goals as goal

pub returns-clause-numbers : goal.returns-clause-numbers
returns-clause-numbers c =
    IfOk-weaker c.kept_of_cells.result _ _
    (λ kept is. subst AreCanonicalFormulas (sym is) (cells_kept_numbers c.args.there c.args.back c.args.old.now c.args.new.now c.cell_map.result.now c.cell_map.ensures.canonical)) c.kept_of_cells.ensures.kept
