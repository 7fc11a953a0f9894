use Rattle.std.proofs.Common.{◌<◌, length, sym, subst, ◌∙◌, arith}
use Rattle.base_maps.specs.laws.Each.{no_entry}
use Rattle.format_rules.specs.Canonical.{IsCanonicalFormatting}
use Rattle.base_maps.specs.SheetIndexes.{sheet_index_cmp}
use Rattle.base_maps.specs.laws.TaggedIndexes.{put_under, put_under_are, all_under_none, all_under_more}
use Rattle.sheet_grid.specs.Sheet.{Sheet}
use Rattle.book_names.specs.Renaming.{AreCanonicalFormattings, own_formattings_kept}
use Rattle.book_names.proofs.kept_rules.kept_of_sheets.Goals as goal

pub loop-sheet-init : goal.loop-sheet-init
loop-sheet-init g c = (
  c.new-kept.ensures ∙ sym (all_under_none (λ (sheet : Sheet). sheet.id) (λ (sheet : Sheet). own_formattings_kept
      (g.T.SheetReach.reached c.args.there.now sheet.id) (g.B.SheetReach.reached c.args.back.now sheet.id) c.args.old.now c.args.new.now sheet.formattings)),
  subst AreCanonicalFormattings (sym c.new-kept.ensures) (no_entry sheet_index_cmp (λ _ formatting. IsCanonicalFormatting formatting)),
)

pub loop-sheet-preserved : goal.loop-sheet-preserved
loop-sheet-preserved g c =
    let there = g.T.SheetReach.reached c.args.there.now in
    let back = g.B.SheetReach.reached c.args.back.now in
    let old = c.args.old.now in
    let new = c.args.new.now in
    let sheets = c.args.sheets.now in
    let i = c.loop-sheet.sheet-index in
    let more = c.in_ok-more.ensures in
    let within : i < length sheets = omega arith in (
      c.in_ok-put_under.ensures.ok
          ∙ (λ j. put_under (c.get_sheet_id.ensures j) (more.kept j) (c.loop-sheet.invariant.0 j))
          ∙ sym (all_under_more (λ (sheet : Sheet). sheet.id)
          (λ (sheet : Sheet). own_formattings_kept (there sheet.id) (back sheet.id) old new sheet.formattings) sheets i c.sheet-item.result within c.sheet-item.is),
      subst AreCanonicalFormattings (sym c.in_ok-put_under.ensures.ok)
          (put_under_are IsCanonicalFormatting c.get_sheet_id.result _ c.loop-sheet.kept more.numbers c.loop-sheet.invariant.1),
    )
