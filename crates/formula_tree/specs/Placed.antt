-- Whether a tree's corners lie as they should in a formula at a place.
use Rattle.std.specs.Prelude.{Bool, true, ◌&&◌}
use Rattle.std.specs.List.{list_all}
use Rattle.base_values.specs.declared.Position.{Position}
use Rattle.formula_tree.specs.declared.corner.Corner.{Corner}
use Rattle.formula_tree.specs.declared.node.Node.{Node, fold-Node}
use Rattle.formula_tree.specs.declared.node.Node.TheOpen.{Node-F}
use Rattle.formula_tree.specs.declared.node.Node.TheOpen as layer
use Rattle.formula_tree.specs.Corners.{is_inside, are_in_order}

-- a range's corners are inside, and in order
unfoldable pub is_placed_range : Position → Corner → Corner → Bool
is_placed_range place first second = (is_inside place first && is_inside place second) && are_in_order place first second

-- one node, whose children are tested
abbrev pub placed_layer : Position → Node-F Bool → Bool
placed_layer place (layer.Boolean value) = true
placed_layer place (layer.Number value) = true
placed_layer place (layer.Text text) = true
placed_layer place (layer.Reference sheet corner) = is_inside place corner
placed_layer place (layer.Range sheet first second) = is_placed_range place first second
placed_layer place (layer.Colon a b) = a && b
placed_layer place (layer.Concatenate a b) = a && b
placed_layer place (layer.Compare kind a b) = a && b
placed_layer place (layer.Sum kind a b) = a && b
placed_layer place (layer.Product kind a b) = a && b
placed_layer place (layer.Power a b) = a && b
placed_layer place (layer.Unary kind a) = a
placed_layer place (layer.Call function all) = list_all (λ test. test) all
placed_layer place (layer.NamedCall name all) = list_all (λ test. test) all
placed_layer place (layer.Array lines) = true
placed_layer place (layer.Name name) = true
placed_layer place (layer.Error error) = true
placed_layer place (layer.ParseError text) = true
placed_layer place layer.EmptyArgument = true
placed_layer place (layer.Spill a) = a
placed_layer place (layer.Lambda parameters a) = a
placed_layer place (layer.LambdaCall a all) = a && list_all (λ test. test) all
placed_layer place (layer.ImplicitIntersection a) = a

-- each corner of the tree is inside the sheet, and the corners of each range are in order
unfoldable pub is_placed : Position → Node → Bool
is_placed place = fold-Node Bool (placed_layer place)
