use Rattle.std.proofs.Common.{map, subst, sym, ◌∙◌}
use Rattle.std.specs.FinMap.{get}
use Rattle.std.proofs.lemmas.Result.{IfOk-weaker}
use Rattle.formula_names.specs.declared.Reach.TheVariants.{Nothing}
use Rattle.sheet_lines.specs.Sheets.{IsPlacedBook}
use Rattle.book_names.specs.Renaming.{names_back}
use Rattle.name_edits.specs.NameChanges.{sheet_returned}
use Rattle.name_edits.specs.laws.Replaced.{placed_book_back}
use Rattle.name_edits.proofs.diffs.with_returned_sheets.Goals as goal

pub returns-clause-book : goal.returns-clause-book
returns-clause-book c =
    let w = c.args.workbook.now in
    let kept = c.args.kept.now in
    let name = c.in_ok-old.ensures.name in
    IfOk-weaker c.with_lists.result _ _ (λ output is. is ∙ (λ i. record w {
      names = (c.in_ok-laid.ensures.names ∙ (λ j. names_back Nothing (name j) c.args.new.now (get kept.names) c.args.names.now)) i;
      worksheets = (c.in_ok-sheets.ensures.sheets ∙ (λ j. map (sheet_returned c.args.index (name j) c.args.new.now (c.defined_names.ensures.names j) kept) (c.worksheets.ensures j))) i;
    })) c.with_lists.ensures.book

pub returns-clause-placed : goal.returns-clause-placed
returns-clause-placed c =
    let w = c.args.workbook.now in
    IfOk-weaker c.with_lists.result _ _
    (λ output is. subst IsPlacedBook (sym is) (placed_book_back c.args.index c.args.old.now c.args.new.now w.names c.args.kept.now c.requires.trees w.worksheets c.requires.placed)) (returns-clause-book c)
