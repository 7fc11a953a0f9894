use Rattle.std.proofs.Common.{map, subst, sym, ◌∙◌}
use Rattle.std.proofs.lemmas.Result.{IfOk-weaker}
use Rattle.sheet_lines.specs.Sheets.{IsPlacedBook}
use Rattle.formula_names.specs.declared.Reach.TheVariants.{Sheets}
use Rattle.book_names.specs.Renaming.{defined_renamed, sheet_renamed}
use Rattle.book_names.specs.laws.Sheets.{placed_book}
use Rattle.book_names.proofs.sheets.book_renamed.Goals as goal

pub returns-clause-book : goal.returns-clause-book
returns-clause-book c =
    let w = c.args.workbook.now in
    let name = c.in_ok-new.ensures.name in
    IfOk-weaker c.with_lists.result _ _ (λ output is. is ∙ (λ i. record w {
      names = (c.in_ok-names.ensures.names ∙ (λ j. map (defined_renamed Sheets c.args.old.now (name j)) (c.name_list.ensures j))) i;
      worksheets = (c.in_ok-sheets.ensures.sheets ∙ (λ j. map (sheet_renamed c.args.id c.args.old.now (name j)) (c.worksheets.ensures j))) i;
    })) c.with_lists.ensures.book

pub returns-clause-placed : goal.returns-clause-placed
returns-clause-placed c =
    let w = c.args.workbook.now in
    IfOk-weaker c.with_lists.result _ _ (λ output is. subst IsPlacedBook (sym is) (placed_book c.args.id c.args.old.now c.args.new.now w.worksheets c.requires)) (returns-clause-book c)
