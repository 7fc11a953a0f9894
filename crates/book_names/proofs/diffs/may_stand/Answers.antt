use Rattle.std.proofs.Common.{◌∙◌, sym}
use Rattle.book_names.specs.laws.Placed.{placed_where_may}
use Rattle.book_names.proofs.diffs.may_stand.Goals as goal

pub returns-clause-placed : goal.returns-clause-placed
returns-clause-placed c = λ all. placed_where_may c.args.kept.now c.args.workbook.now (sym c.all_stand.ensures ∙ all)
