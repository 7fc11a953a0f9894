-- What is known of kept parts that bytes can carry.
use Rattle.std.specs.Prelude.{◌<◌, ◌^◌}
use Rattle.std.specs.FinMap.{FinMap}
use Rattle.base_maps.specs.SheetPlaces.{sheet_place_cmp}
use Rattle.formula_tree.specs.declared.Node.{Node}
use Rattle.format_rules.specs.declared.ConditionalFormatting.{ConditionalFormatting}
use Rattle.format_rules.specs.Canonical.{IsCanonicalFormatting}
use Rattle.sheet_lines.specs.declared.KeptLines.{KeptLines}
use Rattle.sheet_lines.specs.Back.{AreCanonicalFormulas, AreCanonicalLines}
use Rattle.formula_wire.specs.Carried.{FitsNode}
use Rattle.formula_wire.specs.laws.CanonicalLaws.{canonical_from_carried}
use Rattle.grid_wire.specs.CellBytes.{FitsCell, FitsPosition}
use Rattle.grid_wire.specs.laws.Fitting.{canonical_cell_from_fits}
use Rattle.grid_wire.specs.FormattingBytes.{FitsFormatting}
use Rattle.grid_wire.specs.laws.KnownLaws.{canonical_from_fits}
use Rattle.sheet_wire.specs.PartBytes.{FitsSheetPlace}
use Rattle.base_wire.specs.MapBytes.{FitsMap}
use Rattle.base_wire.specs.laws.MapFits.{values_hold}
use Rattle.sheet_wire.specs.KeptBytes.{FitsKept}

-- the numbers of trees that bytes can carry are canonical
pub formulas_from_fits : (formulas : FinMap sheet_place_cmp Node) → FitsMap FitsSheetPlace FitsNode formulas → AreCanonicalFormulas formulas
formulas_from_fits formulas fits = values_hold FitsSheetPlace FitsNode _ (λ tree fits. canonical_from_carried tree fits.carried) formulas fits

-- those of a conditional rule are
pub canonical_formatting_from_fits : (formatting : ConditionalFormatting) → FitsFormatting formatting → IsCanonicalFormatting formatting
canonical_formatting_from_fits formatting fits = canonical_from_fits formatting.rule fits.rule

-- all of its numbers are canonical
pub kept_lines_from_fits : (kept : KeptLines) → FitsKept kept → AreCanonicalLines kept
kept_lines_from_fits kept fits = record {
  cells = values_hold FitsPosition FitsCell _ canonical_cell_from_fits kept.cells fits.cells;
  formulas = formulas_from_fits kept.formulas fits.formulas;
  formattings = values_hold (λ index. index < 2 ^ 64) FitsFormatting _ canonical_formatting_from_fits kept.formattings fits.formattings;
}
