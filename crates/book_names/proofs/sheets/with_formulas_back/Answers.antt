use Rattle.std.proofs.Common.{subst, sym}
use Rattle.base_maps.specs.Tagged.{place_on}
use Rattle.sheet_grid.specs.CanonicalCell.{CanonicalCells}
use Rattle.book_names.specs.Renaming.{kept_under}
use Rattle.book_names.specs.laws.Numbers.{cells_back_numbers}
use Rattle.book_names.proofs.sheets.with_formulas_back.Goals as goal

pub with_formulas-requires : goal.with_formulas-requires
with_formulas-requires c =
    let id = c.get_sheet_id.result in
    subst CanonicalCells (sym c.in_ok-cells.ensures.cells)
    (cells_back_numbers c.args.reach c.args.old.now c.args.new.now (kept_under c.args.kept.now id) c.cell_map.result.now
    (λ place. c.requires.formulas (place_on id place)) c.cell_map.ensures.canonical)
