-- Whether a content may stand at a place.
use Rattle.std.specs.Prelude.{Bool, true, ◌&&◌}
use Rattle.std.specs.Option.{option_map_or}
use Rattle.base_values.specs.declared.Position.{Position}
use Rattle.formula_tree.specs.declared.Node.{Node}
use Rattle.formula_tree.specs.Depth.{is_within}
use Rattle.formula_tree.specs.Numbers.{has_no_negative_number}
use Rattle.formula_tree.specs.Placed.{is_placed}
use Rattle.cell_content.specs.declared.content.Content.{Content}
use Rattle.cell_content.specs.Lens.{tree_of}

-- each corner of the tree is inside the sheet, the corners of each range are in order, the tree is at most 64 deep, and none
-- of its number nodes is negative
unfoldable pub tree_fits_at : Position → Node → Bool
tree_fits_at place tree = is_placed place tree && is_within 64 tree && has_no_negative_number tree

-- the tree of a formula does; any other content fits everywhere
abbrev pub fits_at : Position → Content → Bool
fits_at place content = option_map_or (tree_fits_at place) (tree_of content) true

-- the tree of a formula is at most 64 deep
abbrev pub is_shallow : Content → Bool
is_shallow content = option_map_or (is_within 64) (tree_of content) true
