-- The tokens of a tree's printed text, with the parentheses that it has.
use Rattle.std.specs.Prelude.{ℕ, pos, neg_ℤ, Bool, false, if◌then◌else◌, int_le, List, [], ◌∷◌, ◌++◌, codes}
use Rattle.std.specs.List.{flat_map}
use Rattle.base_values.specs.declared.Position.{Position}
use Rattle.base_tables.specs.Function.{function_name}
use Rattle.base_tables.specs.Language.{boolean_text}
use Rattle.base_tables.specs.Tables.{lowered}
use Rattle.base_decimal.specs.declared.Decimal.{Decimal}
use Rattle.formula_tree.specs.declared.ArrayItem.{ArrayItem}
use Rattle.formula_tree.specs.declared.ArrayItem.TheVariants as item
use Rattle.formula_tree.specs.declared.Corner.{Corner}
use Rattle.formula_tree.specs.declared.Node.{Node, fold-Node}
use Rattle.formula_tree.specs.declared.Node.TheOpen.{Node-F}
use Rattle.formula_tree.specs.declared.Node.TheOpen as layer
use Rattle.formula_tree.specs.declared.Parameter.{Parameter}
use Rattle.formula_tree.specs.declared.UnaryKind.{UnaryKind}
use Rattle.formula_tree.specs.declared.UnaryKind.TheVariants.{Minus, Percent}
use Rattle.formula_tree.specs.Corners.{corner_row, corner_column}
use Rattle.formula_tree.specs.declared.Infix.{Infix}
use Rattle.formula_tree.specs.declared.Infix.TheVariants as op
use Rattle.formula_tree.specs.declared.Postfix.TheVariants as postfix
use Rattle.formula_tree.specs.declared.Prefix.TheVariants as prefix
use Rattle.formula_tree.specs.Levels.{prefix_level, postfix_level}
use Rattle.formula_print.specs.declared.Kind.{Kind}
use Rattle.formula_print.specs.declared.Kind.TheVariants as k
use Rattle.formula_print.specs.declared.Need.{Need}
use Rattle.formula_print.specs.declared.Need.TheVariants as need
use Rattle.formula_print.specs.declared.Corners.TheVariants.{Letters}
use Rattle.formula_print.specs.Kinds.{fits, left_need, right_need}
use Rattle.formula_print.specs.Print.{unary_kind}
use Rattle.formula_print.specs.References.{reference_cell_first, range_cell_first}
use Rattle.formula_grammar.specs.declared.CellMark.{CellMark}
use Rattle.formula_grammar.specs.declared.Profile.{Profile}
use Rattle.formula_grammar.specs.declared.Token.{Token}
use Rattle.formula_grammar.specs.declared.Token.TheVariants as t
use Rattle.formula_grammar.specs.Grammar.{parameters_tokens}
use Rattle.formula_grammar.specs.Operators.{infix_token}
use Rattle.formula_grammar.specs.Words.{separator_token, row_token}

-- what a tree gives to the tree around it
pub record Tokened : Type 0 where
  pub kind : Kind
  -- whether its text begins with a cell without a sheet
  pub cell_first : Bool
  pub tokens : List Token

abbrev pub in_parentheses : List Token → List Token
in_parentheses tokens = t.OpenParenthesis ∷ tokens ++ t.CloseParenthesis ∷ []

-- an operand, in parentheses where it needs them
abbrev pub operand : Need → Tokened → List Token
operand need a = if fits need a.kind then a.tokens else in_parentheses a.tokens

-- ---- operators

abbrev pub infix_tokens : Infix → Tokened → Tokened → List Token
infix_tokens operator a b = operand (left_need operator) a ++ infix_token operator ∷ operand (right_need operator) b

abbrev pub colon_tokens : Tokened → Tokened → List Token
colon_tokens a b = operand (need.LeftOfColon b.cell_first) a ++ t.Colon ∷ operand (right_need op.Colon) b

abbrev pub unary_tokens : UnaryKind → Tokened → List Token
unary_tokens Minus a = t.Minus ∷ operand need.Negated a
unary_tokens Percent a = operand (need.Level (postfix_level postfix.Percent)) a ++ t.Percent ∷ []

-- ---- cells

-- a corner as the text writes it: the numbers of its lines
abbrev pub mark_of : Position → Corner → CellMark
mark_of place corner = record {
  absolute_row = corner.absolute_row;
  row = corner_row place corner;
  absolute_column = corner.absolute_column;
  column = corner_column place corner;
}

-- ---- calls

abbrev pub later_argument : Profile → Tokened → List Token
later_argument p a = separator_token p.locale ∷ a.tokens

-- arguments with the separator between them
abbrev pub arguments_tokens : Profile → List Tokened → List Token
arguments_tokens p [] = []
arguments_tokens p (first ∷ later) = first.tokens ++ flat_map (later_argument p) later

-- what is called, and its arguments in parentheses
abbrev pub call_tokens : Profile → List Token → List Tokened → List Token
call_tokens p called all = called ++ in_parentheses (arguments_tokens p all)

abbrev pub word_call_tokens : Profile → List ℕ → List Tokened → List Token
word_call_tokens p word all = call_tokens p (t.Word word ∷ []) all

abbrev pub lambda_tokens : Profile → List Parameter → Tokened → List Token
lambda_tokens p parameters body = t.Word (codes "LAMBDA") ∷ in_parentheses (parameters_tokens p parameters ++ body.tokens)

-- ---- arrays

-- a number, a negative one behind a minus sign
abbrev pub number_tokens : Decimal → List Token
number_tokens value = if int_le (pos 0) value.mantissa then t.Number value ∷ [] else t.Minus ∷ t.Number (record value { mantissa = neg_ℤ value.mantissa }) ∷ []

abbrev pub item_tokens : Profile → ArrayItem → List Token
item_tokens p (item.Boolean value) = t.Word (boolean_text p.language value) ∷ []
item_tokens p (item.Number value) = number_tokens value
item_tokens p (item.Text text) = t.Text text ∷ []
item_tokens p (item.Error error) = t.Error error ∷ []

abbrev pub later_item : Profile → ArrayItem → List Token
later_item p x = separator_token p.locale ∷ item_tokens p x

abbrev pub line_tokens : Profile → List ArrayItem → List Token
line_tokens p [] = []
line_tokens p (first ∷ later) = item_tokens p first ++ flat_map (later_item p) later

abbrev pub later_line : Profile → List ArrayItem → List Token
later_line p line = row_token p.locale ∷ line_tokens p line

abbrev pub lines_tokens : Profile → List (List ArrayItem) → List Token
lines_tokens p [] = []
lines_tokens p (first ∷ later) = line_tokens p first ++ flat_map (later_line p) later

abbrev pub array_tokens : Profile → List (List ArrayItem) → List Token
array_tokens p lines = t.OpenBrace ∷ lines_tokens p lines ++ t.CloseBrace ∷ []

-- ---- trees

abbrev pub plainly : Kind → List Token → Tokened
plainly kind tokens = record { kind = kind; cell_first = false; tokens = tokens }

-- one node, whose children have their tokens. Corners count where they are inside the sheet alone, and a parse error has no tokens
abbrev pub token_layer : Profile → Node-F Tokened → Tokened
token_layer p (layer.Boolean value) = plainly k.Value (t.Word (boolean_text p.language value) ∷ [])
token_layer p (layer.Number value) = plainly k.Number (t.Number value ∷ [])
token_layer p (layer.Text text) = plainly k.Value (t.Text text ∷ [])
token_layer p (layer.Reference sheet corner) = record {
  kind = k.Reference;
  cell_first = reference_cell_first (Letters p.place) sheet corner;
  tokens = t.Reference sheet (mark_of p.place corner) ∷ [];
}
token_layer p (layer.Range sheet first second) = record {
  kind = k.Value;
  cell_first = range_cell_first (Letters p.place) sheet first second;
  tokens = t.Range sheet (mark_of p.place first) (mark_of p.place second) ∷ [];
}
token_layer p (layer.Colon a b) = plainly (k.Infix op.Colon) (colon_tokens a b)
token_layer p (layer.Concatenate a b) = plainly (k.Infix op.Concatenate) (infix_tokens op.Concatenate a b)
token_layer p (layer.Compare kind a b) = plainly (k.Infix (op.Compare kind)) (infix_tokens (op.Compare kind) a b)
token_layer p (layer.Sum kind a b) = plainly (k.Infix (op.Sum kind)) (infix_tokens (op.Sum kind) a b)
token_layer p (layer.Product kind a b) = plainly (k.Infix (op.Product kind)) (infix_tokens (op.Product kind) a b)
token_layer p (layer.Power a b) = plainly (k.Infix op.Power) (infix_tokens op.Power a b)
token_layer p (layer.Unary kind a) = plainly (unary_kind kind) (unary_tokens kind a)
token_layer p (layer.Call function all) = plainly k.Other (word_call_tokens p (function_name p.language function) all)
token_layer p (layer.NamedCall name all) = plainly k.Other (word_call_tokens p (lowered name) all)
token_layer p (layer.Array lines) = plainly k.Other (array_tokens p lines)
token_layer p (layer.Name name) = plainly k.Name (t.Word name ∷ [])
token_layer p (layer.Error error) = plainly k.Other (t.Error error ∷ [])
token_layer p (layer.ParseError text) = plainly k.Other []
token_layer p layer.EmptyArgument = plainly k.Other []
token_layer p (layer.Spill a) = record {
  kind = k.Postfix postfix.Spill;
  cell_first = a.cell_first;
  tokens = operand (need.Level (postfix_level postfix.Spill)) a ++ t.Hash ∷ [];
}
token_layer p (layer.Lambda parameters a) = plainly k.Lambda (lambda_tokens p parameters a)
token_layer p (layer.LambdaCall a all) = plainly k.Lambda (call_tokens p (operand need.Callee a) all)
token_layer p (layer.ImplicitIntersection a) = plainly (k.Prefix prefix.At) (t.At ∷ operand (need.Level (prefix_level prefix.At)) a)

-- a tree in a formula that is printed for the place, the locale and the language of a profile
unfoldable pub tokened : Profile → Node → Tokened
tokened p = fold-Node Tokened (token_layer p)

-- its tokens
abbrev pub tokens_of : Profile → Node → List Token
tokens_of p tree = (tokened p tree).tokens
