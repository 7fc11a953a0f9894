use Rattle.std.proofs.Common.{map, subst, sym, ◌∙◌}
use Rattle.std.specs.FinMap.{get}
use Rattle.std.proofs.lemmas.Result.{IfOk-weaker}
use Rattle.sheet_lines.specs.Sheets.{IsPlacedBook}
use Rattle.formula_names.specs.declared.Reach.TheVariants.{Sheets}
use Rattle.book_names.specs.Renaming.{names_back, sheet_back}
use Rattle.book_names.specs.laws.Sheets.{placed_book_back}
use Rattle.book_names.proofs.sheets.book_back.Goals as goal

pub returns-clause-book : goal.returns-clause-book
returns-clause-book c =
    let w = c.args.workbook.now in
    let kept = c.args.kept.now in
    let name = c.in_ok-old.ensures.name in
    IfOk-weaker c.with_lists.result _ _ (λ output is. is ∙ (λ i. record w {
      names = (c.in_ok-names.ensures.names ∙ (λ j. names_back Sheets (name j) c.args.new.now (get kept.names) (c.name_list.ensures j))) i;
      worksheets = (c.in_ok-sheets.ensures.sheets ∙ (λ j. map (sheet_back c.args.id (name j) c.args.new.now kept) (c.worksheets.ensures j))) i;
    })) c.with_lists.ensures.book

pub returns-clause-placed : goal.returns-clause-placed
returns-clause-placed c =
    let w = c.args.workbook.now in
    IfOk-weaker c.with_lists.result _ _
    (λ output is. subst IsPlacedBook (sym is) (placed_book_back c.args.id c.args.old.now c.args.new.now c.args.kept.now c.requires.trees w.worksheets c.requires.placed)) (returns-clause-book c)
