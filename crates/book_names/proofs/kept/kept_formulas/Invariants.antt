use Rattle.std.proofs.Common.{◌≡◌, take}
use Rattle.sheet_lines.specs.Back.{AreCanonicalFormulas}
use Rattle.book_names.specs.Renaming.{formulas_kept}
use Rattle.book_names.proofs.kept.kept_formulas.Given as goal

abbrev pub invariant-loop-sheet : goal.invariant-loop-sheet
invariant-loop-sheet g l = (l.kept ≡ formulas_kept (g.T.SheetReach.reached l.fn.there) (g.B.SheetReach.reached l.fn.back) l.fn.old l.fn.new (take l.sheet-index l.sheets)) × AreCanonicalFormulas l.kept
