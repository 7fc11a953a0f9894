-- Reading trees and their parts. Serves proofs alone.
use Rattle.std.specs.Prelude.{ℕ, ℤ, Bool, List, [], ◌∷◌, Option, ◌==◌, if◌then◌else◌, zero, suc}
use Rattle.std.specs.Int.{w32}
use Rattle.base_tables.specs.declared.Function.{Function}
use Rattle.base_tables.specs.Function.{function_of_code}
use Rattle.formula_tree.specs.declared.ArrayItem.{ArrayItem}
use Rattle.formula_tree.specs.declared.ArrayItem.TheVariants as item
use Rattle.formula_tree.specs.declared.Corner.{Corner}
use Rattle.formula_tree.specs.declared.CompareKind.{CompareKind}
use Rattle.formula_tree.specs.declared.CompareKind.TheVariants.{Equal, NotEqual, Less, LessOrEqual, Greater, GreaterOrEqual}
use Rattle.formula_tree.specs.declared.SumKind.{SumKind}
use Rattle.formula_tree.specs.declared.SumKind.TheVariants.{Add, Subtract}
use Rattle.formula_tree.specs.declared.ProductKind.{ProductKind}
use Rattle.formula_tree.specs.declared.ProductKind.TheVariants.{Multiply, Divide}
use Rattle.formula_tree.specs.declared.UnaryKind.{UnaryKind}
use Rattle.formula_tree.specs.declared.UnaryKind.TheVariants.{Minus, Percent}
use Rattle.formula_tree.specs.declared.Parameter.{Parameter}
use Rattle.base_wire.specs.laws.Reading.{Reader, refused, map_at, ◌⊗◌, tagged_at, coded_at, code_at, signed_at, text_at, option_at, list_at, boolean_at, error_at, decimal_at, plain}
use Rattle.formula_tree.specs.declared.Node.{Node}
use Rattle.formula_tree.specs.declared.Node.TheVariants as node
use Rattle.formula_wire.specs.PartBytes.{compare_code, sum_code, product_code, unary_code}

-- ---- kinds of operators

abbrev pub comparisons : List CompareKind
comparisons = Equal ∷ NotEqual ∷ Less ∷ LessOrEqual ∷ Greater ∷ GreaterOrEqual ∷ []

abbrev pub compare_at : Reader CompareKind
compare_at = code_at compare_code comparisons

abbrev pub sums : List SumKind
sums = Add ∷ Subtract ∷ []

abbrev pub sum_at : Reader SumKind
sum_at = code_at sum_code sums

abbrev pub products : List ProductKind
products = Multiply ∷ Divide ∷ []

abbrev pub product_at : Reader ProductKind
product_at = code_at product_code products

abbrev pub unaries : List UnaryKind
unaries = Minus ∷ Percent ∷ []

abbrev pub unary_at : Reader UnaryKind
unary_at = code_at unary_code unaries

abbrev pub function_at : Reader Function
function_at = coded_at function_of_code

-- ---- corners

abbrev pub corner_made : Bool × (ℤ × (Bool × ℤ)) → Corner
corner_made x = record { absolute_row = x.0; row = x.1.0; absolute_column = x.1.1.0; column = x.1.1.1 }

unfoldable pub corner_at : Reader Corner
corner_at = map_at corner_made (boolean_at ⊗ signed_at w32 ⊗ boolean_at ⊗ signed_at w32)

unfoldable pub sheet_at : Reader (Option (List ℕ))
sheet_at = option_at text_at

-- ---- arrays

-- what follows each kind
abbrev pub item_of : ℕ → Reader ArrayItem
item_of kind =
    if kind == 0 then map_at item.Boolean boolean_at
    else if kind == 1 then map_at item.Number decimal_at
    else if kind == 2 then map_at item.Text text_at
    else if kind == 3 then map_at item.Error error_at
    else refused

unfoldable pub item_at : Reader ArrayItem
item_at = tagged_at item_of

unfoldable pub line_at : Reader (List ArrayItem)
line_at = list_at item_at

unfoldable pub lines_at : Reader (List (List ArrayItem))
lines_at = list_at line_at

-- ---- parameters

abbrev pub parameter_made : List ℕ × Bool → Parameter
parameter_made x = record { name = x.0; optional = x.1 }

unfoldable pub parameter_at : Reader Parameter
parameter_at = map_at parameter_made (text_at ⊗ boolean_at)

unfoldable pub parameters_at : Reader (List Parameter)
parameters_at = list_at parameter_at

-- ---- reading

abbrev pub reference_made : Option (List ℕ) × Corner → Node
reference_made x = node.Reference x.0 x.1

abbrev pub range_made : Option (List ℕ) × (Corner × Corner) → Node
range_made x = node.Range x.0 x.1.0 x.1.1

abbrev pub colon_made : Node × Node → Node
colon_made x = node.Colon x.0 x.1

abbrev pub concatenate_made : Node × Node → Node
concatenate_made x = node.Concatenate x.0 x.1

abbrev pub compare_made : CompareKind × (Node × Node) → Node
compare_made x = node.Compare x.0 x.1.0 x.1.1

abbrev pub sum_made : SumKind × (Node × Node) → Node
sum_made x = node.Sum x.0 x.1.0 x.1.1

abbrev pub product_made : ProductKind × (Node × Node) → Node
product_made x = node.Product x.0 x.1.0 x.1.1

abbrev pub power_made : Node × Node → Node
power_made x = node.Power x.0 x.1

abbrev pub unary_made : UnaryKind × Node → Node
unary_made x = node.Unary x.0 x.1

abbrev pub call_made : Function × List Node → Node
call_made x = node.Call x.0 x.1

abbrev pub named_call_made : List ℕ × List Node → Node
named_call_made x = node.NamedCall x.0 x.1

abbrev pub lambda_made : List Parameter × Node → Node
lambda_made x = node.Lambda x.0 x.1

abbrev pub lambda_call_made : Node × List Node → Node
lambda_call_made x = node.LambdaCall x.0 x.1

-- what follows the tags of nodes that are a text
abbrev pub text_of : ℕ → Reader Node
text_of tag =
    if tag == 2 then map_at node.Text text_at
    else if tag == 15 then map_at node.Name text_at
    else if tag == 17 then map_at node.ParseError text_at
    else refused

-- a range is 2 deep, so it is let reach one deeper than its own place
abbrev pub range_at : ℕ → Reader Node
range_at below = if below == 0 then refused else map_at range_made (sheet_at ⊗ corner_at ⊗ corner_at)

-- what follows the tags of the other nodes without children
abbrev pub leaf_of : ℕ → ℕ → Reader Node
leaf_of below tag =
    if tag == 0 then map_at node.Boolean boolean_at
    else if tag == 1 then map_at node.Number decimal_at
    else if tag == 3 then map_at reference_made (sheet_at ⊗ corner_at)
    else if tag == 4 then range_at below
    else if tag == 14 then map_at node.Array lines_at
    else if tag == 16 then map_at node.Error error_at
    else if tag == 18 then plain node.EmptyArgument
    else text_of tag

-- what follows the tags of calls and lambdas, and of `#` and `@`
abbrev pub call_of : Reader Node → (ℕ → Reader Node) → ℕ → Reader Node
call_of read others tag =
    if tag == 12 then map_at call_made (function_at ⊗ list_at read)
    else if tag == 13 then map_at named_call_made (text_at ⊗ list_at read)
    else if tag == 19 then map_at node.Spill read
    else if tag == 20 then map_at lambda_made (parameters_at ⊗ read)
    else if tag == 21 then map_at lambda_call_made (read ⊗ list_at read)
    else if tag == 22 then map_at node.ImplicitIntersection read
    else others tag

-- what follows the tags of operators of several kinds
abbrev pub kinded_of : Reader Node → (ℕ → Reader Node) → ℕ → Reader Node
kinded_of read others tag =
    if tag == 7 then map_at compare_made (compare_at ⊗ read ⊗ read)
    else if tag == 8 then map_at sum_made (sum_at ⊗ read ⊗ read)
    else if tag == 9 then map_at product_made (product_at ⊗ read ⊗ read)
    else if tag == 11 then map_at unary_made (unary_at ⊗ read)
    else others tag

-- what follows the tags of the other operators
abbrev pub operator_of : Reader Node → (ℕ → Reader Node) → ℕ → Reader Node
operator_of read others tag =
    if tag == 5 then map_at colon_made (read ⊗ read)
    else if tag == 6 then map_at concatenate_made (read ⊗ read)
    else if tag == 10 then map_at power_made (read ⊗ read)
    else kinded_of read others tag

-- what follows each tag, where the children are read by a reader that reaches so deep
abbrev pub node_of : Reader Node → ℕ → ℕ → Reader Node
node_of read below = operator_of read (call_of read (leaf_of below))

-- a tree that is at most so deep
unfoldable pub node_within : ℕ → Reader Node
node_within zero bytes = refused bytes
node_within (suc below) bytes = tagged_at (node_of (node_within below) below) bytes

-- a tree of a formula: at most 64 deep
unfoldable pub node_at : Reader Node
node_at = node_within 64
