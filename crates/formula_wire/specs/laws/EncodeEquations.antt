-- How each kind of node is encoded.
use Rattle.std.specs.Prelude.{◌≡◌, ℕ, Bool, List, [], ◌∷◌, ◌++◌, length, map, Option}
use Rattle.std.proofs.Common.{ap, sym, refl, suc, ◌∙◌}
use Rattle.std.specs.List.{flat_map}
use Rattle.std.specs.Int.{w64, to_be_bytes}
use Rattle.base_tables.specs.Error.{error_code}
use Rattle.base_tables.specs.Function.{function_code}
use Rattle.base_decimal.specs.declared.Decimal.{Decimal}
use Rattle.base_tables.specs.declared.Error.{Error}
use Rattle.base_tables.specs.declared.Function.{Function}
use Rattle.formula_tree.specs.declared.ArrayItem.{ArrayItem}
use Rattle.formula_tree.specs.declared.Corner.{Corner}
use Rattle.formula_tree.specs.declared.CompareKind.{CompareKind}
use Rattle.formula_tree.specs.declared.SumKind.{SumKind}
use Rattle.formula_tree.specs.declared.ProductKind.{ProductKind}
use Rattle.formula_tree.specs.declared.UnaryKind.{UnaryKind}
use Rattle.formula_tree.specs.declared.Parameter.{Parameter}
use Rattle.formula_tree.specs.declared.Node.{Node}
use Rattle.formula_tree.specs.declared.Node.TheVariants as node
use Rattle.formula_tree.specs.declared.Node.TheOpen.{Node-F}
use Rattle.formula_tree.specs.declared.Node.TheFolds.{fold-Node, fold-roll-Node}
use Rattle.base_wire.specs.Encoding.{encode_code, boolean_code, encode_text, encode_list}
use Rattle.base_wire.specs.Parts.{encode_decimal}
use Rattle.formula_wire.specs.PartBytes.{compare_code, sum_code, product_code, unary_code, encode_corner, encode_sheet, encode_lines, encode_parameters}
use Rattle.formula_wire.specs.NodeBytes.{encoded_all, encode_layer, encode_node}

-- the nodes of a list, with their count before them
abbrev pub encode_nodes : List Node → List ℕ
encode_nodes = encode_list encode_node

length_same : (all : List Node) → length (map encode_node all) ≡ length all
length_same [] = refl
length_same (a ∷ all) = ap suc (length_same all)

parts_same : (all : List Node) → flat_map (λ bytes. bytes) (map encode_node all) ≡ flat_map encode_node all
parts_same [] = refl
parts_same (a ∷ all) = ap (λ (w : List ℕ). encode_node a ++ w) (parts_same all)

encoded_map : (all : List Node) → encoded_all (map encode_node all) ≡ encode_nodes all
encoded_map all = ap (λ (n : ℕ). to_be_bytes w64 n ++ flat_map (λ bytes. bytes) (map encode_node all)) (length_same all) ∙ ap (λ (w : List ℕ). to_be_bytes w64 (length all) ++ w) (parts_same all)

pub encode_of_boolean : (value : Bool) → encode_node (node.Boolean value) ≡ 0 ∷ encode_code boolean_code value
unfolding encode_node
encode_of_boolean value = ap (fold-Node (List ℕ) encode_layer) (sym (node.rolls-Boolean value)) ∙ fold-roll-Node (List ℕ) encode_layer (Node-F.Boolean value)

pub encode_of_number : (value : Decimal) → encode_node (node.Number value) ≡ 1 ∷ encode_decimal value
unfolding encode_node
encode_of_number value = ap (fold-Node (List ℕ) encode_layer) (sym (node.rolls-Number value)) ∙ fold-roll-Node (List ℕ) encode_layer (Node-F.Number value)

pub encode_of_text : (text : List ℕ) → encode_node (node.Text text) ≡ 2 ∷ encode_text text
unfolding encode_node
encode_of_text text = ap (fold-Node (List ℕ) encode_layer) (sym (node.rolls-Text text)) ∙ fold-roll-Node (List ℕ) encode_layer (Node-F.Text text)

pub encode_of_reference : (sheet : Option (List ℕ)) (corner : Corner) → encode_node (node.Reference sheet corner) ≡ 3 ∷ (encode_sheet sheet ++ encode_corner corner)
unfolding encode_node
encode_of_reference sheet corner = ap (fold-Node (List ℕ) encode_layer) (sym (node.rolls-Reference sheet corner)) ∙ fold-roll-Node (List ℕ) encode_layer (Node-F.Reference sheet corner)

pub encode_of_range : (sheet : Option (List ℕ)) (first second : Corner) → encode_node (node.Range sheet first second) ≡ 4 ∷ (encode_sheet sheet ++ (encode_corner first ++ encode_corner second))
unfolding encode_node
encode_of_range sheet first second = ap (fold-Node (List ℕ) encode_layer) (sym (node.rolls-Range sheet first second)) ∙ fold-roll-Node (List ℕ) encode_layer (Node-F.Range sheet first second)

pub encode_of_colon : (a b : Node) → encode_node (node.Colon a b) ≡ 5 ∷ (encode_node a ++ encode_node b)
unfolding encode_node
encode_of_colon a b = ap (fold-Node (List ℕ) encode_layer) (sym (node.rolls-Colon a b)) ∙ fold-roll-Node (List ℕ) encode_layer (Node-F.Colon a b)

pub encode_of_concatenate : (a b : Node) → encode_node (node.Concatenate a b) ≡ 6 ∷ (encode_node a ++ encode_node b)
unfolding encode_node
encode_of_concatenate a b = ap (fold-Node (List ℕ) encode_layer) (sym (node.rolls-Concatenate a b)) ∙ fold-roll-Node (List ℕ) encode_layer (Node-F.Concatenate a b)

pub encode_of_compare : (kind : CompareKind) (a b : Node) → encode_node (node.Compare kind a b) ≡ 7 ∷ (encode_code compare_code kind ++ (encode_node a ++ encode_node b))
unfolding encode_node
encode_of_compare kind a b = ap (fold-Node (List ℕ) encode_layer) (sym (node.rolls-Compare kind a b)) ∙ fold-roll-Node (List ℕ) encode_layer (Node-F.Compare kind a b)

pub encode_of_sum : (kind : SumKind) (a b : Node) → encode_node (node.Sum kind a b) ≡ 8 ∷ (encode_code sum_code kind ++ (encode_node a ++ encode_node b))
unfolding encode_node
encode_of_sum kind a b = ap (fold-Node (List ℕ) encode_layer) (sym (node.rolls-Sum kind a b)) ∙ fold-roll-Node (List ℕ) encode_layer (Node-F.Sum kind a b)

pub encode_of_product : (kind : ProductKind) (a b : Node) → encode_node (node.Product kind a b) ≡ 9 ∷ (encode_code product_code kind ++ (encode_node a ++ encode_node b))
unfolding encode_node
encode_of_product kind a b = ap (fold-Node (List ℕ) encode_layer) (sym (node.rolls-Product kind a b)) ∙ fold-roll-Node (List ℕ) encode_layer (Node-F.Product kind a b)

pub encode_of_power : (a b : Node) → encode_node (node.Power a b) ≡ 10 ∷ (encode_node a ++ encode_node b)
unfolding encode_node
encode_of_power a b = ap (fold-Node (List ℕ) encode_layer) (sym (node.rolls-Power a b)) ∙ fold-roll-Node (List ℕ) encode_layer (Node-F.Power a b)

pub encode_of_unary : (kind : UnaryKind) (a : Node) → encode_node (node.Unary kind a) ≡ 11 ∷ (encode_code unary_code kind ++ encode_node a)
unfolding encode_node
encode_of_unary kind a = ap (fold-Node (List ℕ) encode_layer) (sym (node.rolls-Unary kind a)) ∙ fold-roll-Node (List ℕ) encode_layer (Node-F.Unary kind a)

pub encode_of_call : (function : Function) (all : List Node) → encode_node (node.Call function all) ≡ 12 ∷ (encode_code function_code function ++ encode_nodes all)
unfolding encode_node
encode_of_call function all = ap (fold-Node (List ℕ) encode_layer) (sym (node.rolls-Call function all)) ∙ fold-roll-Node (List ℕ) encode_layer (Node-F.Call function all) ∙ ap (λ (w : List ℕ). 12 ∷ (encode_code function_code function ++ w)) (encoded_map all)

pub encode_of_named_call : (name : List ℕ) (all : List Node) → encode_node (node.NamedCall name all) ≡ 13 ∷ (encode_text name ++ encode_nodes all)
unfolding encode_node
encode_of_named_call name all = ap (fold-Node (List ℕ) encode_layer) (sym (node.rolls-NamedCall name all)) ∙ fold-roll-Node (List ℕ) encode_layer (Node-F.NamedCall name all) ∙ ap (λ (w : List ℕ). 13 ∷ (encode_text name ++ w)) (encoded_map all)

pub encode_of_array : (lines : List (List ArrayItem)) → encode_node (node.Array lines) ≡ 14 ∷ encode_lines lines
unfolding encode_node
encode_of_array lines = ap (fold-Node (List ℕ) encode_layer) (sym (node.rolls-Array lines)) ∙ fold-roll-Node (List ℕ) encode_layer (Node-F.Array lines)

pub encode_of_name : (name : List ℕ) → encode_node (node.Name name) ≡ 15 ∷ encode_text name
unfolding encode_node
encode_of_name name = ap (fold-Node (List ℕ) encode_layer) (sym (node.rolls-Name name)) ∙ fold-roll-Node (List ℕ) encode_layer (Node-F.Name name)

pub encode_of_error : (error : Error) → encode_node (node.Error error) ≡ 16 ∷ encode_code error_code error
unfolding encode_node
encode_of_error error = ap (fold-Node (List ℕ) encode_layer) (sym (node.rolls-Error error)) ∙ fold-roll-Node (List ℕ) encode_layer (Node-F.Error error)

pub encode_of_parse_error : (text : List ℕ) → encode_node (node.ParseError text) ≡ 17 ∷ encode_text text
unfolding encode_node
encode_of_parse_error text = ap (fold-Node (List ℕ) encode_layer) (sym (node.rolls-ParseError text)) ∙ fold-roll-Node (List ℕ) encode_layer (Node-F.ParseError text)

pub encode_of_empty_argument : encode_node node.EmptyArgument ≡ 18 ∷ []
unfolding encode_node
encode_of_empty_argument = ap (fold-Node (List ℕ) encode_layer) (sym (node.rolls-EmptyArgument)) ∙ fold-roll-Node (List ℕ) encode_layer Node-F.EmptyArgument

pub encode_of_spill : (a : Node) → encode_node (node.Spill a) ≡ 19 ∷ encode_node a
unfolding encode_node
encode_of_spill a = ap (fold-Node (List ℕ) encode_layer) (sym (node.rolls-Spill a)) ∙ fold-roll-Node (List ℕ) encode_layer (Node-F.Spill a)

pub encode_of_lambda : (parameters : List Parameter) (a : Node) → encode_node (node.Lambda parameters a) ≡ 20 ∷ (encode_parameters parameters ++ encode_node a)
unfolding encode_node
encode_of_lambda parameters a = ap (fold-Node (List ℕ) encode_layer) (sym (node.rolls-Lambda parameters a)) ∙ fold-roll-Node (List ℕ) encode_layer (Node-F.Lambda parameters a)

pub encode_of_lambda_call : (a : Node) (all : List Node) → encode_node (node.LambdaCall a all) ≡ 21 ∷ (encode_node a ++ encode_nodes all)
unfolding encode_node
encode_of_lambda_call a all = ap (fold-Node (List ℕ) encode_layer) (sym (node.rolls-LambdaCall a all)) ∙ fold-roll-Node (List ℕ) encode_layer (Node-F.LambdaCall a all) ∙ ap (λ (w : List ℕ). 21 ∷ (encode_node a ++ w)) (encoded_map all)

pub encode_of_implicit_intersection : (a : Node) → encode_node (node.ImplicitIntersection a) ≡ 22 ∷ encode_node a
unfolding encode_node
encode_of_implicit_intersection a = ap (fold-Node (List ℕ) encode_layer) (sym (node.rolls-ImplicitIntersection a)) ∙ fold-roll-Node (List ℕ) encode_layer (Node-F.ImplicitIntersection a)

pub ruleset encodings = (encode_of_boolean, encode_of_number, encode_of_text, encode_of_reference, encode_of_range, encode_of_colon, encode_of_concatenate, encode_of_compare, encode_of_sum, encode_of_product, encode_of_power, encode_of_unary, encode_of_call, encode_of_named_call, encode_of_array, encode_of_name, encode_of_error, encode_of_parse_error, encode_of_empty_argument, encode_of_spill, encode_of_lambda, encode_of_lambda_call, encode_of_implicit_intersection)
