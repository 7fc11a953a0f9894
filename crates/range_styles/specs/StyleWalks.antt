-- Which places that a range may touch are gone over.
use Rattle.std.proofs.Common.{Bool, true, false}
use Rattle.std.specs.Prelude.{◌||◌, length, not}
use Rattle.std.specs.FinMap.{entries}
use Rattle.base_axis.specs.declared.MergedCell.{MergedCell}
use Rattle.sheet_grid.specs.Sheet.{Sheet}
use Rattle.range_styles.specs.declared.range.AreaKind.{AreaKind}
use Rattle.range_styles.specs.declared.range.AreaKind.TheVariants.{FullColumns, FullRows, OtherPlaces}
use Rattle.range_styles.specs.PlaceWalks.{has_fewer}

-- whether a range touches each of its places
abbrev pub reaches_all : AreaKind → Bool → Bool
reaches_all OtherPlaces clears = not clears
reaches_all kind clears = false

-- else those that have a cell are gone over, and maybe those of the rows that have a style
abbrev pub reaches_rows : AreaKind → Bool → Bool
reaches_rows FullColumns clears = true
reaches_rows FullRows clears = false
reaches_rows OtherPlaces clears = clears

-- and of the columns that have one
abbrev pub reaches_columns : AreaKind → Bool → Bool
reaches_columns FullColumns clears = false
reaches_columns FullRows clears = not clears
reaches_columns OtherPlaces clears = clears

-- a rectangle has fewer places than a sheet has cells, rows with something of their own, or such columns
abbrev pub is_small : MergedCell → Sheet → Bool
is_small r sheet =
    has_fewer r (length (entries sheet.cells)) || has_fewer r (length (entries sheet.rows)) || has_fewer r (length (entries sheet.columns))
