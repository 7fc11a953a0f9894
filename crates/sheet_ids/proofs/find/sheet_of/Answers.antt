use Rattle.std.proofs.Common.{sym, ap, ◌∙◌}
use Rattle.std.specs.Prelude.{slice_get}
use Rattle.sheet_ids.specs.laws.Found.{found_at, not_found}
use Rattle.sheet_ids.proofs.find.sheet_of.Goals as goal

pub returns-in-Some : goal.returns-in-Some
returns-in-Some c =
    c.sheet_at.ensures ∙ ap (λ sheets. slice_get sheets c.in-Some.index) c.worksheets.ensures
    ∙ sym (found_at c.args.workbook.now c.args.id c.in-Some.index (sym c.index_of.ensures ∙ c.in-Some.is))

pub returns-in-None : goal.returns-in-None
returns-in-None c = sym (not_found c.args.workbook.now c.args.id (sym c.index_of.ensures ∙ c.in-None.is))
