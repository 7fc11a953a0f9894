use Rattle.std.proofs.Common.{◌≡◌, take}
use Rattle.book_names.specs.Renaming.{AreCanonicalFormattings, formattings_kept}
use Rattle.book_names.proofs.kept_rules.kept_of_sheets.Given as goal

abbrev pub invariant-loop-sheet : goal.invariant-loop-sheet
invariant-loop-sheet g l =
    (l.kept ≡ formattings_kept (g.T.SheetReach.reached l.fn.there) (g.B.SheetReach.reached l.fn.back) l.fn.old l.fn.new (take l.sheet-index l.sheets)) × AreCanonicalFormattings l.kept
