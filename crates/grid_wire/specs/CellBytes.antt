-- The bytes of positions, contents and cells.
use Rattle.std.specs.Prelude.{ℕ, ℤ, List, [], ◌∷◌, ◌++◌, FitsSigned, IfSome, IsTrue}
use Rattle.std.specs.Option.{option_map_or}
use Rattle.std.specs.Int.{w32}
use Rattle.base_values.specs.declared.Position.{Position}
use Rattle.base_tables.specs.Error.{error_code}
use Rattle.base_decimal.specs.Canonical.{IsCanonical}
use Rattle.cell_content.specs.declared.Content.{Content}
use Rattle.cell_content.specs.declared.Content.TheVariants.{Empty, Number, Boolean, Error as ErrorValue, Text, Formula, Dynamic, Array}
use Rattle.sheet_grid.specs.declared.Cell.{Cell}
use Rattle.sheet_grid.specs.CanonicalCell.{IsCanonicalCell}
use Rattle.cell_content.specs.Fitting.{is_shallow}
use Rattle.cell_content.specs.Lens.{tree_of}
use Rattle.base_wire.specs.Encoding.{encode_signed, encode_code, boolean_code, encode_text, FitsText}
use Rattle.base_wire.specs.Parts.{encode_decimal}
use Rattle.formula_wire.specs.NodeBytes.{encode_node}
use Rattle.formula_wire.specs.Carried.{FitsNode}
use Rattle.grid_wire.specs.StyleBytes.{encode_style, FitsStyle}

-- ---- positions

-- row and column
unfoldable pub encode_position : Position → List ℕ
encode_position place = encode_signed w32 place.row ++ encode_signed w32 place.column

-- two numbers of 32 bits, inside the sheet or not
pub record FitsPosition (place : Position) : Type 0 where
  pub row : FitsSigned w32 place.row
  pub column : FitsSigned w32 place.column

-- ---- contents

-- the kind of a content
abbrev pub kind_code : Content → ℕ
kind_code Empty = 0
kind_code (Number number) = 1
kind_code (Boolean value) = 2
kind_code (ErrorValue error) = 3
kind_code (Text text) = 4
kind_code (Formula tree) = 5
kind_code (Dynamic tree) = 6
kind_code (Array tree width height) = 7

-- what a content holds besides a tree: an array how many columns wide and rows high it is
abbrev pub encode_rest : Content → List ℕ
encode_rest (Number number) = encode_decimal number
encode_rest (Boolean value) = encode_code boolean_code value
encode_rest (ErrorValue error) = encode_code error_code error
encode_rest (Text text) = encode_text text
encode_rest (Array tree width height) = encode_signed w32 width ++ encode_signed w32 height
encode_rest content = []

-- the kind, the tree of a formula, and what else it holds
abbrev pub encode_content : Content → List ℕ
encode_content content = kind_code content ∷ (option_map_or encode_node (tree_of content) [] ++ encode_rest content)

-- two numbers of 32 bits
pub record FitsSides (columns rows : ℤ) : Type 0 where
  pub width : FitsSigned w32 columns
  pub height : FitsSigned w32 rows

-- a number is canonical, a text is one of Rust, and the sides of an array have 32 bits
abbrev pub FitsRest : Content → Type 0
FitsRest (Number number) = IsCanonical number
FitsRest (Text text) = FitsText text
FitsRest (Array tree width height) = FitsSides width height
FitsRest content = Unit {0}

-- a tree is one that bytes can carry, and so is what else the content holds
pub record FitsContent (content : Content) : Type 0 where
  pub tree : IfSome (tree_of content) FitsNode
  pub rest : FitsRest content

-- ---- cells

-- the content, and the style
abbrev pub encode_cell : Cell → List ℕ
encode_cell cell = encode_content cell.content ++ encode_style cell.style

-- a cell whose parts bytes can carry
pub record FitsCell (cell : Cell) : Type 0 where
  pub content : FitsContent cell.content
  pub style : FitsStyle cell.style

-- what writing asks of a cell: its numbers are canonical, and its formula is at most 64 deep
pub record IsKnownCell (cell : Cell) : Type 0 where
  pub canonical : IsCanonicalCell cell
  pub shallow : IsTrue (is_shallow cell.content)
