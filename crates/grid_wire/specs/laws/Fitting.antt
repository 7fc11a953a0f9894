-- What bytes can carry: the default style, and the numbers in what they carry.
use Rattle.std.proofs.Common.{ℕ, zero, suc, ◌<◌, true, List, [], ◌∷◌, Option, Some, None, refl, arith}
use Rattle.std.specs.Prelude.{IfSome, IsTrue, codes}
use Rattle.std.specs.Option.{option_map_or}
use Rattle.std.specs.List.{AllByRecursion}
use Rattle.std.specs.Str.{IsAscii}
use Rattle.std.proofs.lemmas.Str.{IsUtf8-from_ascii}
use Rattle.base_styles.specs.DefaultStyle.{default_style}
use Rattle.cell_content.specs.declared.Content.{Content}
use Rattle.cell_content.specs.declared.Content.TheVariants.{Empty, Number, Boolean, Error as ErrorValue, Text, Formula, Dynamic, Array}
use Rattle.sheet_grid.specs.declared.Cell.{Cell}
use Rattle.cell_content.specs.CanonicalContent.{IsCanonicalContent}
use Rattle.cell_content.specs.Fitting.{is_shallow}
use Rattle.cell_content.specs.Lens.{tree_of}
use Rattle.formula_tree.specs.declared.Node.{Node}
use Rattle.formula_tree.specs.Depth.{is_within}
use Rattle.formula_wire.specs.Carried.{FitsNode}
use Rattle.formula_wire.specs.laws.CanonicalLaws.{canonical_from_carried}
use Rattle.sheet_grid.specs.CanonicalCell.{IsCanonicalCell}
use Rattle.grid_wire.specs.StyleBytes.{FitsStyle}
use Rattle.grid_wire.specs.CellBytes.{FitsContent, FitsCell}

-- ---- what fits

ascii_by_items : (bytes : List ℕ) → AllByRecursion (λ b. b < 128) bytes → IsAscii bytes
ascii_by_items [] all i = omega arith
ascii_by_items (b ∷ bytes) all zero = all.0
ascii_by_items (b ∷ bytes) all (suc i) = ascii_by_items bytes all.1 i

general_ascii : AllByRecursion (λ b. b < 128) (codes "general")
general_ascii = (omega arith, (omega arith, (omega arith, (omega arith, (omega arith, (omega arith, (omega arith, tt)))))))

pub default_style_fits : FitsStyle default_style
default_style_fits = record {
  font = record { size = record { sfits = omega arith }; color = tt };
  fill = tt;
  border = record { left = tt; right = tt; top = tt; bottom = tt };
  num_fmt = record { short = omega arith; utf8 = IsUtf8-from_ascii (codes "general") (ascii_by_items (codes "general") general_ascii) };
}

-- ---- what fits is canonical

pub canonical_content_from_fits : (content : Content) → FitsContent content → IsCanonicalContent content
canonical_content_from_fits Empty fits = tt
canonical_content_from_fits (Number number) fits = fits.rest
canonical_content_from_fits (Boolean value) fits = tt
canonical_content_from_fits (ErrorValue error) fits = tt
canonical_content_from_fits (Text text) fits = tt
canonical_content_from_fits (Formula tree) fits = canonical_from_carried tree fits.tree.carried
canonical_content_from_fits (Dynamic tree) fits = canonical_from_carried tree fits.tree.carried
canonical_content_from_fits (Array tree width height) fits = canonical_from_carried tree fits.tree.carried

pub shallow_content_from_fits : (content : Content) → FitsContent content → IsTrue (is_shallow content)
shallow_content_from_fits content fits = shallow (tree_of content) fits.tree
  where
    shallow : (o : Option Node) → IfSome o FitsNode → IsTrue (option_map_or (is_within 64) o true)
    shallow None fits = refl
    shallow (Some tree) fits = fits.depth

pub canonical_cell_from_fits : (cell : Cell) → FitsCell cell → IsCanonicalCell cell
canonical_cell_from_fits cell fits = canonical_content_from_fits cell.content fits.content
