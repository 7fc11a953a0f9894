use Rattle.sheet_lines.specs.laws.Regained.{book_regained}
use Rattle.sheet_lines.proofs.laws.edit_and_back.Goals as goal

pub returns : goal.returns
returns g c = book_regained g.A.Axis.along g.met.A.Axis.lawful c.args.edit.now.kind c.requires.valid c.args.sheet_id c.args.workbook.now c.requires.distinct
