-- The bytes of trees: the tag of each kind of node, and what follows it.
use Rattle.std.specs.Prelude.{ℕ, List, [], ◌∷◌, ◌++◌}
use Rattle.base_tables.specs.Error.{error_code}
use Rattle.base_tables.specs.Function.{function_code}
use Rattle.formula_tree.specs.declared.Node.{Node, fold-Node}
use Rattle.formula_tree.specs.declared.Node.TheOpen.{Node-F}
use Rattle.formula_tree.specs.declared.Node.TheOpen as layer
use Rattle.base_wire.specs.Encoding.{encode_code, boolean_code, encode_text, encode_list}
use Rattle.base_wire.specs.Parts.{encode_decimal}
use Rattle.formula_wire.specs.PartBytes.{compare_code, sum_code, product_code, unary_code, encode_corner, encode_sheet, encode_lines, encode_parameters}

-- nodes that are encoded, with their count before them
abbrev pub encoded_all : List (List ℕ) → List ℕ
encoded_all = encode_list (λ bytes. bytes)

-- one node, whose children are encoded
abbrev pub encode_layer : Node-F (List ℕ) → List ℕ
encode_layer (layer.Boolean value) = 0 ∷ encode_code boolean_code value
encode_layer (layer.Number value) = 1 ∷ encode_decimal value
encode_layer (layer.Text text) = 2 ∷ encode_text text
encode_layer (layer.Reference sheet corner) = 3 ∷ (encode_sheet sheet ++ encode_corner corner)
encode_layer (layer.Range sheet first second) = 4 ∷ (encode_sheet sheet ++ (encode_corner first ++ encode_corner second))
encode_layer (layer.Colon a b) = 5 ∷ (a ++ b)
encode_layer (layer.Concatenate a b) = 6 ∷ (a ++ b)
encode_layer (layer.Compare kind a b) = 7 ∷ (encode_code compare_code kind ++ (a ++ b))
encode_layer (layer.Sum kind a b) = 8 ∷ (encode_code sum_code kind ++ (a ++ b))
encode_layer (layer.Product kind a b) = 9 ∷ (encode_code product_code kind ++ (a ++ b))
encode_layer (layer.Power a b) = 10 ∷ (a ++ b)
encode_layer (layer.Unary kind a) = 11 ∷ (encode_code unary_code kind ++ a)
encode_layer (layer.Call function all) = 12 ∷ (encode_code function_code function ++ encoded_all all)
encode_layer (layer.NamedCall name all) = 13 ∷ (encode_text name ++ encoded_all all)
encode_layer (layer.Array lines) = 14 ∷ encode_lines lines
encode_layer (layer.Name name) = 15 ∷ encode_text name
encode_layer (layer.Error error) = 16 ∷ encode_code error_code error
encode_layer (layer.ParseError text) = 17 ∷ encode_text text
encode_layer layer.EmptyArgument = 18 ∷ []
encode_layer (layer.Spill a) = 19 ∷ a
encode_layer (layer.Lambda parameters a) = 20 ∷ (encode_parameters parameters ++ a)
encode_layer (layer.LambdaCall a all) = 21 ∷ (a ++ encoded_all all)
encode_layer (layer.ImplicitIntersection a) = 22 ∷ a

-- the one encoding of a tree
unfoldable pub encode_node : Node → List ℕ
encode_node = fold-Node (List ℕ) encode_layer
