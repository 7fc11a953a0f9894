-- Reading defined names, attributes of lines and whole sheets. Serves proofs alone.
use Rattle.std.specs.Prelude.{ℕ, List, [], ◌∷◌, ℤ, pos, Bool, not, Option}
use Rattle.sheet_grid.specs.declared.SheetState.{SheetState}
use Rattle.sheet_grid.specs.declared.SheetState.TheVariants.{Visible, Hidden, VeryHidden}
use Rattle.std.specs.FinMap.{FinMap}
use Rattle.std.specs.Int.{w32}
use Rattle.std.specs.Ordering.{int_cmp}
use Rattle.base_values.specs.declared.Position.{Position}
use Rattle.base_values.specs.Places.{is_line, is_place, position_cmp}
use Rattle.base_wire.specs.laws.Reading.{Reader, check_at, signed_at, boolean_at, map_at, ◌⊗◌, option_at, number_at, text_at, code_at}
use Rattle.grid_wire.specs.laws.CellReading.{position_at, style_at, color_at, cell_at, link_at, merges_at}
use Rattle.base_wire.specs.laws.MapReading.{map_of_at}
use Rattle.base_styles.specs.declared.Style.{Style}
use Rattle.sheet_grid.specs.Lines.{is_plain}
use Rattle.sheet_grid.specs.declared.LineAttr.{LineAttr}
use Rattle.formula_tree.specs.declared.Node.{Node}
use Rattle.defined_names.specs.declared.DefinedName.{DefinedName}
use Rattle.formula_wire.specs.laws.Reading.{node_at}
use Rattle.base_axis.specs.declared.MergedCell.{MergedCell}
use Rattle.base_styles.specs.declared.Color.{Color}
use Rattle.format_rules.specs.declared.ConditionalFormatting.{ConditionalFormatting}
use Rattle.sheet_grid.specs.Sheet.{Sheet, new_sheet}
use Rattle.sheet_grid.specs.declared.Cell.{Cell}
use Rattle.sheet_grid.specs.declared.Link.{Link}
use Rattle.grid_wire.specs.laws.RuleReading.{formattings_at}
use Rattle.grid_wire.specs.StateBytes.{state_code}

-- ---- states

abbrev pub states : List SheetState
states = Visible ∷ Hidden ∷ VeryHidden ∷ []

-- ---- the keys of a sheet's maps, which are inside the sheet, and these maps

-- a position of the sheet
unfoldable pub place_at : Reader Position
place_at = check_at is_place position_at

-- a line of an axis with this last line
unfoldable pub axis_line_at : ℤ → Reader ℤ
axis_line_at last = check_at (is_line last) (signed_at w32)

-- a map from positions of the sheet
unfoldable pub place_map_at : {X : Type 0} → Reader X → Reader (FinMap position_cmp X)
place_map_at value = map_of_at position_cmp (λ m. m) place_at value

-- a map from lines of an axis
unfoldable pub axis_map_at : {X : Type 0} → ℤ → Reader X → Reader (FinMap int_cmp X)
axis_map_at last value = map_of_at int_cmp (λ m. m) (axis_line_at last) value

-- ---- lines

abbrev pub line_made : Option ℤ × (Option Style × Bool) → LineAttr
line_made x = record { size = x.0; style = x.1.0; hidden = x.1.1 }

unfoldable pub size_at : Reader (Option ℤ)
size_at = option_at (signed_at w32)

unfoldable pub own_style_at : Reader (Option Style)
own_style_at = option_at style_at

-- a line that has nothing of its own is not encoded
unfoldable pub line_at : Reader LineAttr
line_at = map_at line_made (check_at (λ x. not (is_plain (line_made x))) (size_at ⊗ own_style_at ⊗ boolean_at))

-- ---- names

abbrev pub name_made : List ℕ × (Option ℕ × Node) → DefinedName
name_made x = record { name = x.0; scope = x.1.0; formula = x.1.1 }

unfoldable pub scope_at : Reader (Option ℕ)
scope_at = option_at (number_at w32)

unfoldable pub name_at : Reader DefinedName
name_at = map_at name_made (text_at ⊗ scope_at ⊗ node_at)

-- ---- the fields of a sheet

abbrev pub Fields : Type 0
Fields = ℕ × (List ℕ × (SheetState × (Color × (Bool × (ℤ × ℤ)))))

-- a sheet that has these fields, and nothing else
abbrev pub bare_sheet : Fields → Sheet
bare_sheet x = record (new_sheet x.0 x.1.0) {
  state = x.1.1.0;
  color = x.1.1.1.0;
  show_grid_lines = x.1.1.1.1.0;
  frozen_rows = x.1.1.1.1.1.0;
  frozen_columns = x.1.1.1.1.1.1;
}

unfoldable pub fields_at : Reader Sheet
fields_at = map_at bare_sheet (number_at w32 ⊗ text_at ⊗ code_at state_code states ⊗ color_at ⊗ boolean_at ⊗ signed_at w32 ⊗ signed_at w32)

-- ---- what stands in a sheet

unfoldable pub rows_at : Reader (FinMap int_cmp LineAttr)
rows_at = axis_map_at (pos 1048576) line_at

unfoldable pub columns_at : Reader (FinMap int_cmp LineAttr)
columns_at = axis_map_at (pos 16384) line_at

unfoldable pub cells_at : Reader (FinMap position_cmp Cell)
cells_at = place_map_at cell_at

unfoldable pub links_at : Reader (FinMap position_cmp Link)
links_at = place_map_at link_at

-- ---- whole sheets

abbrev pub sheet_made : Sheet × (FinMap int_cmp LineAttr × (FinMap int_cmp LineAttr × (FinMap position_cmp Cell × (FinMap position_cmp Link × (List MergedCell × List ConditionalFormatting))))) → Sheet
sheet_made x = record x.0 { rows = x.1.0; columns = x.1.1.0; cells = x.1.1.1.0; links = x.1.1.1.1.0; merges = x.1.1.1.1.1.0; formattings = x.1.1.1.1.1.1 }

unfoldable pub sheet_at : Reader Sheet
sheet_at = map_at sheet_made (fields_at ⊗ rows_at ⊗ columns_at ⊗ cells_at ⊗ links_at ⊗ merges_at ⊗ formattings_at)
