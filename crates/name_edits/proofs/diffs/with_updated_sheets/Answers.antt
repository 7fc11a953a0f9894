use Rattle.std.proofs.Common.{map, subst, sym, ◌∙◌}
use Rattle.std.proofs.lemmas.Result.{IfOk-weaker}
use Rattle.sheet_lines.specs.Sheets.{IsPlacedBook}
use Rattle.name_edits.specs.NameChanges.{sheet_updated}
use Rattle.name_edits.specs.laws.Replaced.{placed_book}
use Rattle.name_edits.proofs.diffs.with_updated_sheets.Goals as goal

pub returns-clause-book : goal.returns-clause-book
returns-clause-book c =
    let w = c.args.workbook.now in
    let name = c.in_ok-new.ensures.name in
    IfOk-weaker c.with_lists.result _ _ (λ output is. is ∙ (λ i. record w {
      names = c.args.names;
      worksheets = (c.in_ok-sheets.ensures.sheets ∙ (λ j. map (sheet_updated c.args.index c.args.old.now (name j) (c.defined_names.ensures.names j)) (c.worksheets.ensures j))) i;
    })) c.with_lists.ensures.book

pub returns-clause-placed : goal.returns-clause-placed
returns-clause-placed c =
    let w = c.args.workbook.now in
    IfOk-weaker c.with_lists.result _ _ (λ output is. subst IsPlacedBook (sym is) (placed_book c.args.index c.args.old.now c.args.new.now w.names w.worksheets c.requires)) (returns-clause-book c)
