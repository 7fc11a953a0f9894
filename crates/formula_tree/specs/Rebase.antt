-- A tree that is filled to another place: relative corners keep their offsets, and so move along.
use Rattle.std.specs.Prelude.{if◌then◌else◌, Option, Some, None}
use Rattle.base_values.specs.declared.Position.{Position}
use Rattle.formula_tree.specs.declared.corner.Corner.{Corner}
use Rattle.formula_tree.specs.declared.node.Node.{Node}
use Rattle.formula_tree.specs.Corners.{is_inside}
use Rattle.formula_tree.specs.Moved.{Mapping, moved}

-- a corner as it is, lost where it lies outside the sheet
unfoldable pub same_corner : Position → Corner → Option Corner
same_corner to corner = if is_inside to corner then Some corner else None

-- each corner as it is, seen from the formula's new place
abbrev pub filling : Position → Mapping
filling to = record {
  reference = λ sheet corner. same_corner to corner;
  first = λ sheet first second. same_corner to first;
  second = λ sheet first second. same_corner to second;
}

-- the tree of a formula at that place
unfoldable pub rebased : Position → Node → Node
rebased to = moved to (filling to)
