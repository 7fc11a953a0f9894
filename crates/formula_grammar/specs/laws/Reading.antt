-- Reading a tree from tokens, as a function.
use Rattle.std.specs.Prelude.{ℕ, zero, suc, ◌-◌, Bool, true, false, not, if◌then◌else◌, ◌==◌, nat_le, List, [], ◌∷◌, ◌++◌, length, Option, Some, None, option_map, option_and_then, Result, Ok, Err}
use Rattle.base_values.specs.declared.Position.{Position}
use Rattle.base_values.specs.declared.EditError.{EditError}
use Rattle.base_tables.specs.declared.Locale.{Locale}
use Rattle.base_tables.specs.declared.Language.{Language}
use Rattle.base_tables.specs.Language.{boolean_of_text}
use Rattle.formula_tree.specs.declared.array_item.ArrayItem.{ArrayItem}
use Rattle.formula_tree.specs.declared.array_item.ArrayItem.TheVariants as entry
use Rattle.formula_tree.specs.declared.node.Node.{Node}
use Rattle.formula_tree.specs.declared.node.Node.TheVariants as n
use Rattle.formula_tree.specs.declared.operator.CompareKind.TheVariants as compare_kind
use Rattle.formula_tree.specs.declared.operator.ProductKind.TheVariants as product_kind
use Rattle.formula_tree.specs.declared.operator.SumKind.TheVariants as sum_kind
use Rattle.formula_tree.specs.declared.parameter.Parameter.{Parameter}
use Rattle.formula_tree.specs.Depth.{depth_of}
use Rattle.formula_grammar.specs.declared.after_item.AfterItem.{AfterItem}
use Rattle.formula_grammar.specs.declared.after_item.AfterItem.TheVariants as after
use Rattle.formula_tree.specs.declared.infix.Infix.TheVariants as between
use Rattle.formula_tree.specs.declared.postfix.Postfix.TheVariants as postfix
use Rattle.formula_tree.specs.declared.prefix.Prefix.{Prefix}
use Rattle.formula_tree.specs.declared.prefix.Prefix.TheVariants as prefix
use Rattle.formula_tree.specs.Levels.{infix_node, prefix_node, postfix_node}
use Rattle.formula_grammar.specs.declared.operator.Operator.{Operator}
use Rattle.formula_grammar.specs.declared.operator.Operator.TheVariants as operator
use Rattle.formula_grammar.specs.declared.profile.Profile.{Profile}
use Rattle.formula_grammar.specs.declared.token.CellMark.{CellMark}
use Rattle.formula_grammar.specs.declared.token.Token.{Token}
use Rattle.formula_grammar.specs.declared.token.Token.TheVariants as t
use Rattle.formula_grammar.specs.Operators.{infix_under, prefix_under, postfix_under}
use Rattle.formula_grammar.specs.Words.{has_point, is_lambda, called, worded, mark_place, corner_of, range_node, negated, are_even}

-- what was read, and the tokens after it
abbrev pub Outcome : Type 0 → Type 0
Outcome A = Option (A × List Token)

abbrev pub Parser : Type 0 → Type 0
Parser A = List Token → Outcome A

abbrev pub and_then : {A B : Type 0} → Outcome A → (A → Parser B) → Outcome B
and_then (Some p) f = f p.0 p.1
and_then None f = None

infixl 10 ◌>>=◌
abbrev pub ◌>>=◌ : {A B : Type 0} → Parser A → (A → Parser B) → Parser B
p >>= f = λ ts. and_then (p ts) f

infixl 10 ◌>>◌
abbrev pub ◌>>◌ : {A B : Type 0} → Parser A → Parser B → Parser B
p >> q = p >>= (λ _. q)

abbrev pub pure : {A : Type 0} → A → Parser A
pure a = λ ts. Some (a, ts)

-- the value, if there is one, with these tokens after it
abbrev pub with_rest : {A : Type 0} → List Token → Option A → Outcome A
with_rest ts o = option_map (λ a. (a, ts)) o

-- the tree, if it is not too deep
unfoldable pub shallow_tree : Node → Option Node
shallow_tree tree = if nat_le (depth_of tree) 64 then Some tree else None

abbrev pub make : Node → Parser Node
make tree = λ ts. with_rest ts (shallow_tree tree)

-- ---- tokens

-- the operator that the token is
abbrev pub operator_of : Token → Option Operator
operator_of t.Equal = Some (operator.Infix (between.Compare compare_kind.Equal))
operator_of t.NotEqual = Some (operator.Infix (between.Compare compare_kind.NotEqual))
operator_of t.Less = Some (operator.Infix (between.Compare compare_kind.Less))
operator_of t.LessOrEqual = Some (operator.Infix (between.Compare compare_kind.LessOrEqual))
operator_of t.Greater = Some (operator.Infix (between.Compare compare_kind.Greater))
operator_of t.GreaterOrEqual = Some (operator.Infix (between.Compare compare_kind.GreaterOrEqual))
operator_of t.Ampersand = Some (operator.Infix between.Concatenate)
operator_of t.Plus = Some (operator.Infix (between.Sum sum_kind.Add))
operator_of t.Minus = Some (operator.Infix (between.Sum sum_kind.Subtract))
operator_of t.Times = Some (operator.Infix (between.Product product_kind.Multiply))
operator_of t.Divide = Some (operator.Infix (between.Product product_kind.Divide))
operator_of t.Power = Some (operator.Infix between.Power)
operator_of t.Colon = Some (operator.Infix between.Colon)
operator_of t.Percent = Some (operator.Postfix postfix.Percent)
operator_of t.Hash = Some (operator.Postfix postfix.Spill)
operator_of _ = None

-- the sign that the token is
abbrev pub sign_of : Token → Option Prefix
sign_of t.Minus = Some prefix.Minus
sign_of t.Plus = Some prefix.Plus
sign_of t.At = Some prefix.At
sign_of _ = None

abbrev pub operator_under : Operator → ℕ
operator_under (operator.Infix op) = infix_under op
operator_under (operator.Postfix op) = postfix_under op

-- only where it has this level under it
abbrev pub own : {Op : Type 0} → (Op → ℕ) → ℕ → Op → Option Op
own under_of under op = if under_of op == under then Some op else None

-- the operator with this level under it that stands here
abbrev pub operator_at : ℕ → Parser Operator
operator_at under [] = None
operator_at under (x ∷ ts) = with_rest ts (option_and_then (own operator_under under) (operator_of x))

-- the sign with this level under it that the token is
abbrev pub sign_at : ℕ → Token → Option Prefix
sign_at under x = option_and_then (own prefix_under under) (sign_of x)

abbrev pub opening : Parser (Unit {0})
opening (t.OpenParenthesis ∷ ts) = Some (tt, ts)
opening _ = None

abbrev pub closing : Parser (Unit {0})
closing (t.CloseParenthesis ∷ ts) = Some (tt, ts)
closing _ = None

abbrev pub is_separator : Locale → Token → Bool
is_separator locale t.Comma = has_point locale
is_separator locale t.Semicolon = not (has_point locale)
is_separator locale _ = false

-- a separator, which goes on, or the closing parenthesis, which ends
abbrev pub separator : Locale → Parser Bool
separator locale [] = None
separator locale (t.CloseParenthesis ∷ ts) = Some (false, ts)
separator locale (x ∷ ts) = if is_separator locale x then Some (true, ts) else None

-- nothing stands before the next separator or closing parenthesis
abbrev pub is_empty_here : Locale → List Token → Bool
is_empty_here locale [] = false
is_empty_here locale (t.CloseParenthesis ∷ ts) = true
is_empty_here locale (x ∷ ts) = is_separator locale x

-- ---- what goes on behind a first operand, grouped to the left. The number bounds the turns: each makes the tree deeper.

module _ {Op : Type 0} (operator : Parser Op) (turn : Op → Node → Parser Node) where
  abbrev pub chain_step : (Node → Parser Node) → Node → List Token → Outcome Op → Outcome Node
  chain_step go_on left ts None = Some (left, ts)
  chain_step go_on left ts (Some (op, rest)) = and_then (turn op left rest) go_on

  unfoldable pub chain_from : ℕ → Node → Parser Node
  chain_from zero left ts = None
  chain_from (suc k) left ts = chain_step (chain_from k) left ts (operator ts)

-- ---- signs before an operand

-- behind a sign; a plus sign makes nothing
abbrev pub make_signed : Prefix → Node → Parser Node
make_signed prefix.Plus tree = pure tree
make_signed op tree = make (prefix_node op tree)

module _ (under : ℕ) (operand : Parser Node) where
  abbrev pub signed_step : Outcome Node → Outcome Node → Option Prefix → Outcome Node
  signed_step unsigned rest None = unsigned
  signed_step unsigned rest (Some op) = and_then rest (make_signed op)

  unfoldable pub signed : Parser Node
  signed [] = operand []
  signed (x ∷ ts) = signed_step (operand (x ∷ ts)) (signed ts) (sign_at under x)

-- ---- arrays

abbrev pub item : Language → Parser ArrayItem
item language (t.Minus ∷ t.Number number ∷ ts) = with_rest ts (option_map entry.Number (negated number))
item language (t.Number number ∷ ts) = Some (entry.Number number, ts)
item language (t.Text text ∷ ts) = Some (entry.Text text, ts)
item language (t.Word word ∷ ts) = with_rest ts (option_map entry.Boolean (boolean_of_text language word))
item language (t.Error error ∷ ts) = Some (entry.Error error, ts)
item language _ = None

abbrev pub after_item : Locale → Parser AfterItem
after_item locale (t.CloseBrace ∷ ts) = Some (after.End, ts)
after_item locale (t.Comma ∷ ts) = if has_point locale then Some (after.Column, ts) else None
after_item locale (t.Semicolon ∷ ts) = Some (if has_point locale then after.Row else after.Column, ts)
after_item locale (t.Divide ∷ ts) = if has_point locale then None else Some (after.Row, ts)
after_item locale _ = None

-- after an item, the last one of this line so far
abbrev pub rows_next : (List (List ArrayItem) → List ArrayItem → Parser (List (List ArrayItem))) → List (List ArrayItem) → List ArrayItem → AfterItem → Parser (List (List ArrayItem))
rows_next go_on lines line after.Column = go_on lines line
rows_next go_on lines line after.Row = go_on (lines ++ line ∷ []) []
rows_next go_on lines line after.End = pure (lines ++ line ∷ [])

-- the lines of an array, after those and the items of the next one that were read. The number bounds the items.
unfoldable pub rows_from : Profile → ℕ → List (List ArrayItem) → List ArrayItem → Parser (List (List ArrayItem))
rows_from p zero lines line = λ ts. None
rows_from p (suc k) lines line = do
  x ← item p.language
  next ← after_item p.locale
  rows_next (rows_from p k) lines (line ++ x ∷ []) next

-- after the opening brace
unfoldable pub array : Profile → Parser Node
array p ts = and_then (rows_from p (length ts) [] [] ts) (λ lines. if are_even lines then pure (n.Array lines) else (λ _. None))

-- ---- lambdas

-- a parameter and the separator after it
abbrev pub parameter : Locale → Parser Parameter
parameter locale (t.Word word ∷ x ∷ ts) = if is_separator locale x then Some (record { name = word; optional = false }, ts) else None
parameter locale (t.OpenBracket ∷ t.Word word ∷ t.CloseBracket ∷ x ∷ ts) = if is_separator locale x then Some (record { name = word; optional = true }, ts) else None
parameter locale _ = None

abbrev pub parameters_step : (List Parameter → Parser (List Parameter)) → List Parameter → List Token → Outcome Parameter → Outcome (List Parameter)
parameters_step go_on found ts (Some (x, rest)) = go_on (found ++ x ∷ []) rest
parameters_step go_on found ts None = Some (found, ts)

-- the parameters that stand here, after those that were read. The number bounds them.
unfoldable pub parameters_from : Locale → ℕ → List Parameter → Parser (List Parameter)
parameters_from locale zero found ts = Some (found, ts)
parameters_from locale (suc k) found ts = parameters_step (parameters_from locale k) found ts (parameter locale ts)

unfoldable pub parameters : Locale → Parser (List Parameter)
parameters locale ts = parameters_from locale (length ts) [] ts

-- ---- references

abbrev pub reference_at : Position → Option (List ℕ) → CellMark → Result Position EditError → Option Node
reference_at place sheet mark (Ok at) = Some (n.Reference sheet (corner_of place mark at))
reference_at place sheet mark (Err e) = None

abbrev pub range_at : Position → Option (List ℕ) → CellMark → CellMark → Result Position EditError → Result Position EditError → Option Node
range_at place sheet first second (Ok start) (Ok stop) = Some (range_node place sheet (corner_of place first start) (corner_of place second stop))
range_at place sheet first second (Ok start) (Err e) = None
range_at place sheet first second (Err e) stop = None

-- ---- the rules

-- behind an operator, with an operand of the level under it
abbrev pub turn : Parser Node → Operator → Node → Parser Node
turn operand (operator.Infix op) left = do right ← operand; make (infix_node op left right)
turn operand (operator.Postfix op) left = make (postfix_node op left)

-- inner reads a whole one nest further in, with so many parentheses left to open.

module _ (p : Profile) (inner : ℕ → Parser Node) (room : ℕ) where
  unfoldable pub enclosed : Parser Node
  enclosed = if room == 0 then (λ ts. None) else (do tree ← inner (room - 1); closing; pure tree)

  unfoldable pub argument : Parser Node
  argument ts = if is_empty_here p.locale ts then Some (n.EmptyArgument, ts) else inner room ts

  unfoldable pub arguments_from : ℕ → List Node → Parser (List Node)
  arguments_from zero found = λ ts. None
  arguments_from (suc k) found = do
    x ← argument
    goes_on ← separator p.locale
    if goes_on then arguments_from k (found ++ x ∷ []) else pure (found ++ x ∷ [])

  abbrev pub arguments_by : List Token → Outcome (Unit {0}) → Outcome (List Node)
  arguments_by ts (Some q) = Some ([], q.1)
  arguments_by ts None = arguments_from (length ts) [] ts

  -- after the opening parenthesis
  unfoldable pub arguments : Parser (List Node)
  arguments ts = arguments_by ts (closing ts)

  -- after LAMBDA and the opening parenthesis
  unfoldable pub function : Parser Node
  function = do all ← parameters p.locale; body ← inner room; closing; make (n.Lambda all body)

  -- a call of what stands before
  abbrev pub lambda_turn : Unit {0} → Node → Parser Node
  lambda_turn _ left = do all ← arguments; make (n.LambdaCall left all)

  unfoldable pub lambda : Parser Node
  lambda = function >>= chain_from opening lambda_turn 64

  -- after a word and an opening parenthesis
  unfoldable pub call : List ℕ → Parser Node
  call word = if is_lambda word then lambda else (do all ← arguments; make (called p.language word all))

  -- what a word begins
  abbrev pub named : List ℕ → Parser Node
  named word (t.OpenParenthesis ∷ ts) = call word ts
  named word ts = Some (worded p.language word, ts)

  unfoldable pub primary : Parser Node
  primary (t.Number value ∷ ts) = Some (n.Number value, ts)
  primary (t.Text value ∷ ts) = Some (n.Text value, ts)
  primary (t.Error value ∷ ts) = Some (n.Error value, ts)
  primary (t.Reference sheet mark ∷ ts) = with_rest ts (reference_at p.place sheet mark (mark_place mark))
  primary (t.Range sheet first second ∷ ts) = with_rest ts (range_at p.place sheet first second (mark_place first) (mark_place second))
  primary (t.Word word ∷ ts) = named word ts
  primary (t.OpenParenthesis ∷ ts) = enclosed ts
  primary (t.OpenBrace ∷ ts) = array p ts
  primary _ = None

  unfoldable pub expression : ℕ → Parser Node
  expression zero = primary
  expression (suc under) = signed under (expression under) >>= chain_from (operator_at under) (turn (expression under)) 64

-- a whole, with calls and parentheses nested no deeper than the first number, and no more open parentheses than the second
unfoldable pub whole : Profile → ℕ → ℕ → Parser Node
whole p zero room = λ ts. None
whole p (suc nesting) room = expression p (whole p nesting) room 10

abbrev pub if_last : Outcome Node → Option Node
if_last (Some (tree, [])) = Some tree
if_last _ = None

-- the tree that the tokens are
unfoldable pub tree_of : Profile → List Token → Option Node
tree_of p ts = if_last (whole p 128 64 ts)
