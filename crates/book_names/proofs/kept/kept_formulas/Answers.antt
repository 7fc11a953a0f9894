use Rattle.std.proofs.Common.{◌<◌, length, sym, subst, ◌∙◌, arith}
use Rattle.std.specs.Prelude.{IsTrue}
use Rattle.base_maps.specs.SheetPlaces.{sheet_place_cmp}
use Rattle.base_maps.specs.Tagged.{put_under}
use Rattle.base_maps.specs.laws.Each.{no_entry}
use Rattle.base_maps.specs.laws.Tagged.{all_under_none, all_under_more, put_under_are}
use Rattle.formula_tree.specs.Numbers.{has_canonical_numbers}
use Rattle.sheet_grid.specs.Sheet.{Sheet}
use Rattle.sheet_lines.specs.Back.{AreCanonicalFormulas}
use Rattle.book_names.specs.Renaming.{cells_kept}
use Rattle.book_names.proofs.kept.kept_formulas.Goals as goal

pub loop-sheet-init : goal.loop-sheet-init
loop-sheet-init g c = (
  c.new-kept.ensures ∙ sym (all_under_none (λ (sheet : Sheet). sheet.id) (λ (sheet : Sheet).
      cells_kept (g.T.SheetReach.reached c.args.there.now sheet.id) (g.B.SheetReach.reached c.args.back.now sheet.id) c.args.old.now c.args.new.now sheet.cells)),
  subst AreCanonicalFormulas (sym c.new-kept.ensures) (no_entry sheet_place_cmp (λ _ tree. IsTrue (has_canonical_numbers tree))),
)

pub loop-sheet-preserved : goal.loop-sheet-preserved
loop-sheet-preserved g c =
    let there = g.T.SheetReach.reached c.args.there.now in
    let back = g.B.SheetReach.reached c.args.back.now in
    let old = c.args.old.now in
    let new = c.args.new.now in
    let sheets = c.args.sheets.now in
    let i = c.loop-sheet.sheet-index in
    let more = c.in_ok-more.ensures in
    let within : i < length sheets = omega arith in (
      c.in_ok-put_under.ensures.ok
          ∙ (λ j. put_under (c.get_sheet_id.ensures j) (more.kept j) (c.loop-sheet.invariant.0 j))
          ∙ sym (all_under_more (λ (sheet : Sheet). sheet.id) (λ (sheet : Sheet). cells_kept (there sheet.id) (back sheet.id) old new sheet.cells)
          sheets i c.sheet-item.result within c.sheet-item.is),
      subst AreCanonicalFormulas (sym c.in_ok-put_under.ensures.ok)
          (put_under_are (λ tree. IsTrue (has_canonical_numbers tree)) c.get_sheet_id.result _ c.loop-sheet.kept more.numbers c.loop-sheet.invariant.1),
    )
