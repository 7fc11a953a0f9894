-- The text of a tree, with the parentheses that it needs.
use Rattle.std.specs.Prelude.{ℕ, Bool, false, if◌then◌else◌, List, [], ◌∷◌, ◌++◌, codes, encode_utf8}
use Rattle.std.specs.List.{flat_map}
use Rattle.base_tables.specs.Locale.{decimal_sign, argument_separator}
use Rattle.base_tables.specs.Language.{boolean_text}
use Rattle.base_tables.specs.Error.{error_text}
use Rattle.base_tables.specs.Tables.{lowered}
use Rattle.base_decimal.specs.Printed.{printed as decimal_text}
use Rattle.formula_tree.specs.declared.Node.{Node, fold-Node}
use Rattle.formula_tree.specs.declared.Node.TheOpen.{Node-F}
use Rattle.formula_tree.specs.declared.Node.TheOpen as layer
use Rattle.formula_tree.specs.declared.UnaryKind.{UnaryKind}
use Rattle.formula_tree.specs.declared.UnaryKind.TheVariants.{Minus, Percent}
use Rattle.formula_tree.specs.declared.Parameter.{Parameter}
use Rattle.formula_print.specs.declared.kind.Kind.{Kind}
use Rattle.formula_print.specs.declared.kind.Kind.TheVariants as k
use Rattle.formula_print.specs.declared.kind.Need.{Need}
use Rattle.formula_print.specs.declared.kind.Need.TheVariants as need
use Rattle.formula_tree.specs.declared.infix.Infix.{Infix}
use Rattle.formula_tree.specs.declared.infix.Infix.TheVariants as op
use Rattle.formula_tree.specs.declared.postfix.Postfix.TheVariants as postfix
use Rattle.formula_tree.specs.declared.prefix.Prefix.TheVariants as prefix
use Rattle.formula_tree.specs.Levels.{prefix_level, postfix_level}
use Rattle.formula_print.specs.declared.style.Style.{Style}
use Rattle.formula_print.specs.declared.style.Dialect.{Dialect}
use Rattle.formula_print.specs.declared.style.Dialect.TheVariants.{Plain, Excel}
use Rattle.formula_print.specs.Kinds.{fits, left_need, right_need}
use Rattle.formula_print.specs.References.{reference_text, range_text, reference_cell_first, range_cell_first}
use Rattle.formula_print.specs.Pieces.{text_constant, function_word, lambda_word, infix_sign, spill_word, single_word, array_text, parameter_part}

-- what a tree gives to the tree around it
pub record Printed : Type 0 where
  pub kind : Kind
  -- whether the text begins with a cell without a sheet, where the tree stands on the right of `:`
  pub cell_first : Bool
  -- its bytes
  pub text : List ℕ

abbrev pub in_parentheses : List ℕ → List ℕ
in_parentheses text = codes "(" ++ (text ++ codes ")")

-- an operand, in parentheses where it needs them
abbrev pub operand : Need → Printed → List ℕ
operand need p = if fits need p.kind then p.text else in_parentheses p.text

-- the left operand and the sign
abbrev pub left_text : Infix → Printed → List ℕ
left_text operator a = operand (left_need operator) a ++ infix_sign operator

abbrev pub infix_text : Infix → Printed → Printed → List ℕ
infix_text operator a b = left_text operator a ++ operand (right_need operator) b

-- the left operand of `:` and the sign
abbrev pub first_text : Bool → Printed → List ℕ
first_text cell_follows a = operand (need.LeftOfColon cell_follows) a ++ codes ":"

abbrev pub colon_text : Printed → Printed → List ℕ
colon_text a b = first_text b.cell_first a ++ operand (right_need op.Colon) b

abbrev pub unary_text : UnaryKind → Printed → List ℕ
unary_text Minus a = codes "-" ++ operand need.Negated a
unary_text Percent a = operand (need.Level (postfix_level postfix.Percent)) a ++ codes "%"

abbrev pub unary_kind : UnaryKind → Kind
unary_kind Minus = k.Prefix prefix.Minus
unary_kind Percent = k.Postfix postfix.Percent

-- an operand as the one argument of a call
abbrev pub one_argument_call : List ℕ → Printed → List ℕ
one_argument_call word a = word ++ in_parentheses a.text

abbrev pub spill_text : Dialect → Printed → List ℕ
spill_text Plain a = operand (need.Level (postfix_level postfix.Spill)) a ++ codes "#"
spill_text Excel a = one_argument_call spill_word a

abbrev pub spill_cell_first : Dialect → Bool → Bool
spill_cell_first Plain cell_first = cell_first
spill_cell_first Excel cell_first = false

abbrev pub intersection_text : Dialect → Printed → List ℕ
intersection_text Plain a = codes "@" ++ operand (need.Level (prefix_level prefix.At)) a
intersection_text Excel a = one_argument_call single_word a

abbrev pub later_argument : Style → Printed → List ℕ
later_argument style p = encode_utf8 (argument_separator style.locale) ++ p.text

-- arguments with the separator between them
abbrev pub arguments_text : Style → List Printed → List ℕ
arguments_text style [] = []
arguments_text style (first ∷ later) = first.text ++ flat_map (later_argument style) later

-- what is called, and its arguments in parentheses
abbrev pub call_text : Style → List ℕ → List Printed → List ℕ
call_text style called all = called ++ in_parentheses (arguments_text style all)

abbrev pub lambda_text : Style → List Parameter → Printed → List ℕ
lambda_text style parameters body = lambda_word style.dialect ++ in_parentheses (flat_map (parameter_part style.locale) parameters ++ body.text)

abbrev pub plainly : Kind → List ℕ → Printed
plainly kind text = record { kind = kind; cell_first = false; text = text }

-- one node, whose children are printed
abbrev pub print_layer : Style → Node-F Printed → Printed
print_layer style (layer.Boolean value) = plainly k.Value (boolean_text style.language value)
print_layer style (layer.Number value) = plainly k.Number (decimal_text (decimal_sign style.locale) value)
print_layer style (layer.Text text) = plainly k.Value (text_constant text)
print_layer style (layer.Reference sheet corner) =
    record { kind = k.Reference; cell_first = reference_cell_first style.corners sheet corner; text = reference_text style.corners sheet corner }
print_layer style (layer.Range sheet first second) =
    record { kind = k.Value; cell_first = range_cell_first style.corners sheet first second; text = range_text style.corners sheet first second }
print_layer style (layer.Colon a b) = plainly (k.Infix op.Colon) (colon_text a b)
print_layer style (layer.Concatenate a b) = plainly (k.Infix op.Concatenate) (infix_text op.Concatenate a b)
print_layer style (layer.Compare kind a b) = plainly (k.Infix (op.Compare kind)) (infix_text (op.Compare kind) a b)
print_layer style (layer.Sum kind a b) = plainly (k.Infix (op.Sum kind)) (infix_text (op.Sum kind) a b)
print_layer style (layer.Product kind a b) = plainly (k.Infix (op.Product kind)) (infix_text (op.Product kind) a b)
print_layer style (layer.Power a b) = plainly (k.Infix op.Power) (infix_text op.Power a b)
print_layer style (layer.Unary kind a) = plainly (unary_kind kind) (unary_text kind a)
print_layer style (layer.Call function all) = plainly k.Other (call_text style (function_word style function) all)
print_layer style (layer.NamedCall name all) = plainly k.Other (call_text style (lowered name) all)
print_layer style (layer.Array lines) = plainly k.Other (array_text style lines)
print_layer style (layer.Name name) = plainly k.Name name
print_layer style (layer.Error error) = plainly k.Other (error_text error)
print_layer style (layer.ParseError text) = plainly k.Other text
print_layer style layer.EmptyArgument = plainly k.Other []
print_layer style (layer.Spill a) = record { kind = k.Postfix postfix.Spill; cell_first = spill_cell_first style.dialect a.cell_first; text = spill_text style.dialect a }
print_layer style (layer.Lambda parameters a) = plainly k.Lambda (lambda_text style parameters a)
print_layer style (layer.LambdaCall a all) = plainly k.Lambda (call_text style (operand need.Callee a) all)
print_layer style (layer.ImplicitIntersection a) = plainly (k.Prefix prefix.At) (intersection_text style.dialect a)

-- a tree in a form of this style
unfoldable pub printed : Style → Node → Printed
printed style = fold-Node Printed (print_layer style)

-- its text
abbrev pub text_of : Style → Node → List ℕ
text_of style tree = (printed style tree).text
