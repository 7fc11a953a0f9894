-- Reading styles, positions, cells, links and merges. Serves proofs alone.
use Rattle.std.specs.Prelude.{ℕ, ℤ, Bool, Option, List, [], ◌∷◌, ◌==◌, if◌then◌else◌}
use Rattle.std.specs.Int.{w32}
use Rattle.base_styles.specs.Colors.{theme_color_of_code}
use Rattle.base_styles.specs.declared.Color.{Color}
use Rattle.base_styles.specs.declared.Color.TheVariants.{None as NoColor, Rgb, Theme}
use Rattle.base_styles.specs.declared.BorderStyle.{BorderStyle}
use Rattle.base_styles.specs.declared.BorderStyle.TheVariants.{Dotted, Thin, MediumDashDotDot, MediumDashDot, SlantDashDot, MediumDashed, Medium, Thick, Double}
use Rattle.base_styles.specs.declared.BorderItem.{BorderItem}
use Rattle.base_styles.specs.declared.Border.{Border}
use Rattle.base_styles.specs.declared.HorizontalAlignment.{HorizontalAlignment}
use Rattle.base_styles.specs.declared.HorizontalAlignment.TheVariants as horizontal
use Rattle.base_styles.specs.declared.VerticalAlignment.{VerticalAlignment}
use Rattle.base_styles.specs.declared.VerticalAlignment.TheVariants as vertical
use Rattle.base_styles.specs.declared.Alignment.{Alignment}
use Rattle.base_styles.specs.declared.Font.{Font}
use Rattle.base_styles.specs.declared.Style.{Style}
use Rattle.base_wire.specs.laws.Reading.{Reader, ◌>>=◌, plain, refused, map_at, ◌⊗◌, byte_at, tagged_at, coded_at, code_at, signed_at, text_at, option_at, boolean_at, error_at, decimal_at, list_at}
use Rattle.base_values.specs.declared.Position.{Position}
use Rattle.formula_tree.specs.declared.Node.{Node}
use Rattle.cell_content.specs.declared.Content.{Content}
use Rattle.cell_content.specs.declared.Content.TheVariants.{Empty, Number, Boolean, Error as ErrorValue, Text, Formula, Dynamic, Array}
use Rattle.sheet_grid.specs.declared.Cell.{Cell}
use Rattle.formula_wire.specs.laws.Reading.{node_at}
use Rattle.sheet_grid.specs.declared.Link.{Link}
use Rattle.base_axis.specs.declared.MergedCell.{MergedCell}
use Rattle.grid_wire.specs.StyleBytes.{border_code, horizontal_code, vertical_code}

-- ---- colours

abbrev pub rgb : ℕ × (ℕ × ℕ) → Color
rgb x = Rgb x.0 x.1.0 x.1.1

-- what follows each kind
abbrev pub color_of : ℕ → Reader Color
color_of kind =
    if kind == 0 then plain NoColor
    else if kind == 1 then map_at rgb (byte_at ⊗ byte_at ⊗ byte_at)
    else if kind == 2 then map_at Theme (coded_at theme_color_of_code)
    else refused

unfoldable pub color_at : Reader Color
color_at = tagged_at color_of

-- ---- fonts

abbrev pub font_made : Bool × (Bool × (Bool × (Bool × (ℤ × Color)))) → Font
font_made x = record { b = x.0; i = x.1.0; u = x.1.1.0; strike = x.1.1.1.0; sz = x.1.1.1.1.0; color = x.1.1.1.1.1 }

unfoldable pub font_at : Reader Font
font_at = map_at font_made (boolean_at ⊗ boolean_at ⊗ boolean_at ⊗ boolean_at ⊗ signed_at w32 ⊗ color_at)

-- ---- borders

-- all of them
abbrev pub border_styles : List BorderStyle
border_styles = Dotted ∷ Thin ∷ MediumDashDotDot ∷ MediumDashDot ∷ SlantDashDot ∷ MediumDashed ∷ Medium ∷ Thick ∷ Double ∷ []

abbrev pub border_item_made : BorderStyle × Color → BorderItem
border_item_made x = record { style = x.0; color = x.1 }

unfoldable pub border_item_at : Reader BorderItem
border_item_at = map_at border_item_made (code_at border_code border_styles ⊗ color_at)

abbrev pub border_made : Option BorderItem × (Option BorderItem × (Option BorderItem × Option BorderItem)) → Border
border_made x = record { left = x.0; right = x.1.0; top = x.1.1.0; bottom = x.1.1.1 }

unfoldable pub side_at : Reader (Option BorderItem)
side_at = option_at border_item_at

unfoldable pub border_at : Reader Border
border_at = map_at border_made (side_at ⊗ side_at ⊗ side_at ⊗ side_at)

-- ---- alignments

abbrev pub horizontals : List HorizontalAlignment
horizontals = horizontal.General ∷ horizontal.Left ∷ horizontal.Center ∷ horizontal.Right ∷ horizontal.Fill ∷ horizontal.Justify ∷ horizontal.CenterContinuous ∷ horizontal.Distributed ∷ []

abbrev pub verticals : List VerticalAlignment
verticals = vertical.Bottom ∷ vertical.Center ∷ vertical.Distributed ∷ vertical.Justify ∷ vertical.Top ∷ []

abbrev pub alignment_made : HorizontalAlignment × (VerticalAlignment × Bool) → Alignment
alignment_made x = record { horizontal = x.0; vertical = x.1.0; wrap_text = x.1.1 }

unfoldable pub alignment_at : Reader Alignment
alignment_at = map_at alignment_made (code_at horizontal_code horizontals ⊗ code_at vertical_code verticals ⊗ boolean_at)

unfoldable pub alignment_option_at : Reader (Option Alignment)
alignment_option_at = option_at alignment_at

-- ---- styles

abbrev pub style_made : Font × (Color × (Border × (List ℕ × Option Alignment))) → Style
style_made x = record { font = x.0; fill = x.1.0; border = x.1.1.0; num_fmt = x.1.1.1.0; alignment = x.1.1.1.1 }

unfoldable pub style_at : Reader Style
style_at = map_at style_made (font_at ⊗ color_at ⊗ border_at ⊗ text_at ⊗ alignment_option_at)

-- ---- positions

abbrev pub position_made : ℤ × ℤ → Position
position_made x = record { row = x.0; column = x.1 }

unfoldable pub position_at : Reader Position
position_at = map_at position_made (signed_at w32 ⊗ signed_at w32)

-- ---- contents

abbrev pub array_made : Node × (ℤ × ℤ) → Content
array_made x = Array x.0 x.1.0 x.1.1

abbrev pub array_at : Reader Content
array_at = map_at array_made (node_at ⊗ signed_at w32 ⊗ signed_at w32)

-- an array with this tree, by its sides
abbrev pub sides_at : Node → Reader Content
sides_at tree = map_at (λ sides. array_made (tree, sides)) (signed_at w32 ⊗ signed_at w32)

-- a formula of a kind, its tree first
abbrev pub formula_at : ℕ → Reader Content
formula_at kind bytes = do
  tree ← node_at bytes
  (if kind == 5 then plain (Formula tree.0) else if kind == 6 then plain (Dynamic tree.0) else sides_at tree.0) tree.1

-- what follows each kind
abbrev pub content_of : ℕ → Reader Content
content_of kind =
    if kind == 0 then plain Empty
    else if kind == 1 then map_at Number decimal_at
    else if kind == 2 then map_at Boolean boolean_at
    else if kind == 3 then map_at ErrorValue error_at
    else if kind == 4 then map_at Text text_at
    else if kind == 5 then map_at Formula node_at
    else if kind == 6 then map_at Dynamic node_at
    else if kind == 7 then array_at
    else refused

unfoldable pub content_at : Reader Content
content_at = tagged_at content_of

-- ---- cells

abbrev pub cell_made : Content × Style → Cell
cell_made x = record { content = x.0; style = x.1 }

unfoldable pub cell_at : Reader Cell
cell_at = map_at cell_made (content_at ⊗ style_at)

-- ---- links

abbrev pub link_made : List ℕ → Link
link_made text = record { target = text }

unfoldable pub link_at : Reader Link
link_at = map_at link_made text_at

-- ---- merges

abbrev pub merge_made : ℤ × (ℤ × (ℤ × ℤ)) → MergedCell
merge_made x = record { row = x.0; column = x.1.0; width = x.1.1.0; height = x.1.1.1 }

unfoldable pub merge_at : Reader MergedCell
merge_at = map_at merge_made (signed_at w32 ⊗ signed_at w32 ⊗ signed_at w32 ⊗ signed_at w32)

unfoldable pub merges_at : Reader (List MergedCell)
merges_at = list_at merge_at
