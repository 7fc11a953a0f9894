-- Which leaves of a tree change where its corners move.
use Rattle.std.specs.Prelude.{ℕ, Bool, true, false, not, ◌||◌, List, Option, Some, None}
use Rattle.base_values.specs.declared.Position.{Position}
use Rattle.formula_tree.specs.declared.Corner.{Corner}
use Rattle.formula_tree.specs.contracts.corner.CornerPartialEq.TheImpl as equality
use Rattle.formula_tree.specs.Corners.{lower_corner, higher_corner}
use Rattle.formula_tree.specs.Moved.{Mapping}
use Rattle.formula_back.specs.Leaves.{LeafTests}

-- it is not the same corner, with the same marks
abbrev pub is_another : Corner → Corner → Bool
is_another a b = not (equality.ghosts.eq a b)

-- a reference changes where its corner is lost or becomes another one
abbrev pub changes_reference : Option Corner → Corner → Bool
changes_reference (Some moved) corner = is_another moved corner
changes_reference None corner = true

-- a range changes where one of its corners is lost or, in order for a formula at that place, one of them becomes another one
abbrev pub changes_range : Position → Option Corner → Option Corner → Corner → Corner → Bool
changes_range to (Some one) (Some other) first second = is_another (lower_corner to one other) first || is_another (higher_corner to one other) second
changes_range to (Some one) None first second = true
changes_range to None other first second = true

-- the leaves of a formula that then stands at that place which change where their corners go through a mapping. No name changes
abbrev pub changed_leaves : Position → Mapping → LeafTests
changed_leaves to m = record {
  reference = λ sheet corner. changes_reference (m.reference sheet corner) corner;
  range = λ sheet first second. changes_range to (m.first sheet first second) (m.second sheet first second) first second;
  name = λ name. false;
}
