-- The grammar of formulas over tokens: the derivations of each rule, the tokens that each spells, and its tree.
use Rattle.std.specs.Prelude.{◌≡◌, ℕ, zero, suc, ◌≤◌, max, Bool, true, false, List, [], ◌∷◌, ◌++◌, Option, Some, Ok}
use Rattle.base_values.specs.declared.Position.{Position}
use Rattle.base_tables.specs.declared.Error.{Error}
use Rattle.base_tables.specs.Language.{boolean_of_text}
use Rattle.base_decimal.specs.declared.Decimal.{Decimal}
use Rattle.formula_tree.specs.declared.array_item.ArrayItem.{ArrayItem}
use Rattle.formula_tree.specs.declared.array_item.ArrayItem.TheVariants as item
use Rattle.formula_tree.specs.declared.node.Node.{Node}
use Rattle.formula_tree.specs.declared.node.Node.TheVariants as n
use Rattle.formula_tree.specs.declared.parameter.Parameter.{Parameter}
use Rattle.formula_tree.specs.Depth.{depth_of}
use Rattle.formula_tree.specs.declared.infix.Infix.{Infix}
use Rattle.formula_tree.specs.declared.postfix.Postfix.{Postfix}
use Rattle.formula_tree.specs.declared.prefix.Prefix.{Prefix}
use Rattle.formula_tree.specs.Levels.{infix_node, prefix_node, postfix_node}
use Rattle.formula_grammar.specs.declared.profile.Profile.{Profile}
use Rattle.formula_grammar.specs.declared.token.CellMark.{CellMark}
use Rattle.formula_grammar.specs.declared.token.Token.{Token}
use Rattle.formula_grammar.specs.declared.token.Token.TheVariants as t
use Rattle.formula_grammar.specs.Operators.{infix_under, prefix_under, postfix_under, infix_token, prefix_token, postfix_token}
use Rattle.formula_grammar.specs.Words.{separator_token, row_token, is_lambda, called, worded, parameter_tokens, mark_place, corner_of, range_node, negated, are_even}

-- Item := ["-"] NUMBER | TEXT | boolean | ERROR
pub data Item (p : Profile) : Type 0 where
  plain : Decimal → Item p
  negative : (number value : Decimal) → negated number ≡ Some value → Item p
  quoted : List ℕ → Item p
  boolean : (word : List ℕ) (value : Bool) → boolean_of_text p.language word ≡ Some value → Item p
  failed : Error → Item p

-- Line (RowSep Line)*, where Line := Item (ColSep Item)*: after an item either the array ends, or its line goes on, or the next line begins
pub data Rows (p : Profile) : Type 0 where
  last : Item p → Rows p
  beside : Item p → Rows p → Rows p
  above : Item p → Rows p → Rows p

abbrev pub item_tokens : {p : Profile} → Item p → List Token
item_tokens (plain number) = t.Number number ∷ []
item_tokens (negative number value is) = t.Minus ∷ t.Number number ∷ []
item_tokens (quoted text) = t.Text text ∷ []
item_tokens (boolean word value is) = t.Word word ∷ []
item_tokens (failed error) = t.Error error ∷ []

abbrev pub item_value : {p : Profile} → Item p → ArrayItem
item_value (plain number) = item.Number number
item_value (negative number value is) = item.Number value
item_value (quoted text) = item.Text text
item_value (boolean word value is) = item.Boolean value
item_value (failed error) = item.Error error

abbrev pub rows_tokens : {p : Profile} → Rows p → List Token
rows_tokens (last x) = item_tokens x
rows_tokens {p} (beside x rows) = item_tokens x ++ separator_token p.locale ∷ rows_tokens rows
rows_tokens {p} (above x rows) = item_tokens x ++ row_token p.locale ∷ rows_tokens rows

-- an item before the first line
abbrev pub before_line : ArrayItem → List (List ArrayItem) → List (List ArrayItem)
before_line x [] = (x ∷ []) ∷ []
before_line x (line ∷ lines) = (x ∷ line) ∷ lines

abbrev pub rows_lines : {p : Profile} → Rows p → List (List ArrayItem)
rows_lines (last x) = (item_value x ∷ []) ∷ []
rows_lines (beside x rows) = before_line (item_value x) (rows_lines rows)
rows_lines (above x rows) = (item_value x ∷ []) ∷ rows_lines rows

mutual
  -- an expression of a level, counted from the tightest: one of the next tighter level, or with an operator of the level. An infix operator joins an expression of its level with
  -- one of the next tighter level, so that chains group to the left. At level 0 no operator stands outermost: the numbers of cells and ranges are inside the sheet, and a word
  -- before a parenthesis is LAMBDA in a lambda alone
  pub data Expression (p : Profile) : ℕ → Type 0 where
    lift : {level : ℕ} → Expression p level → Expression p (suc level)
    joined : (op : Infix) → Expression p (suc (infix_under op)) → Expression p (infix_under op) → Expression p (suc (infix_under op))
    followed : (op : Postfix) → Expression p (suc (postfix_under op)) → Expression p (suc (postfix_under op))
    signed : (op : Prefix) → Expression p (suc (prefix_under op)) → Expression p (suc (prefix_under op))
    number : Decimal → Expression p zero
    text : List ℕ → Expression p zero
    error : Error → Expression p zero
    reference : (sheet : Option (List ℕ)) (mark : CellMark) (at : Position) → mark_place mark ≡ Ok at → Expression p zero
    range : (sheet : Option (List ℕ)) (first second : CellMark) (start stop : Position) → mark_place first ≡ Ok start → mark_place second ≡ Ok stop → Expression p zero
    parentheses : Expression p 10 → Expression p zero
    array : (rows : Rows p) → are_even (rows_lines rows) ≡ true → Expression p zero
    lambda : Lambda p → Expression p zero
    call : (word : List ℕ) → is_lambda word ≡ false → Arguments p → Expression p zero
    word : List ℕ → Expression p zero

  -- Lambda ("(" Arguments ")")*, where Lambda := "LAMBDA" "(" (Parameter SEP)* Expression ")"
  pub data Lambda (p : Profile) : Type 0 where
    function : (word : List ℕ) → is_lambda word ≡ true → List Parameter → Expression p 10 → Lambda p
    applied : Lambda p → Arguments p → Lambda p

  -- Argument (SEP Argument)*
  pub data Arguments (p : Profile) : Type 0 where
    last : Argument p → Arguments p
    more : Argument p → Arguments p → Arguments p

  -- Argument := Expression | empty
  pub data Argument (p : Profile) : Type 0 where
    empty : Argument p
    given : Expression p 10 → Argument p

-- ---- the tokens

-- the parameters of a lambda, each with the separator after it
abbrev pub parameters_tokens : Profile → List Parameter → List Token
parameters_tokens p [] = []
parameters_tokens p (x ∷ xs) = parameter_tokens x ++ separator_token p.locale ∷ parameters_tokens p xs

abbrev mutual
  pub expression_tokens : {p : Profile} {level : ℕ} → Expression p level → List Token
  expression_tokens (lift a) = expression_tokens a
  expression_tokens (joined op a b) = expression_tokens a ++ infix_token op ∷ expression_tokens b
  expression_tokens (followed op a) = expression_tokens a ++ postfix_token op ∷ []
  expression_tokens (signed op a) = prefix_token op ∷ expression_tokens a
  expression_tokens (number value) = t.Number value ∷ []
  expression_tokens (text value) = t.Text value ∷ []
  expression_tokens (error x) = t.Error x ∷ []
  expression_tokens (reference sheet mark at is) = t.Reference sheet mark ∷ []
  expression_tokens (range sheet first second start stop is also) = t.Range sheet first second ∷ []
  expression_tokens (parentheses a) = t.OpenParenthesis ∷ expression_tokens a ++ t.CloseParenthesis ∷ []
  expression_tokens (array rows is) = t.OpenBrace ∷ rows_tokens rows ++ t.CloseBrace ∷ []
  expression_tokens (lambda a) = lambda_tokens a
  expression_tokens (call name is all) = t.Word name ∷ t.OpenParenthesis ∷ arguments_tokens all ++ t.CloseParenthesis ∷ []
  expression_tokens (word name) = t.Word name ∷ []

  pub lambda_tokens : {p : Profile} → Lambda p → List Token
  lambda_tokens {p} (function name is parameters body) = t.Word name ∷ t.OpenParenthesis ∷ parameters_tokens p parameters ++ (expression_tokens body ++ t.CloseParenthesis ∷ [])
  lambda_tokens (applied a all) = lambda_tokens a ++ (t.OpenParenthesis ∷ arguments_tokens all ++ t.CloseParenthesis ∷ [])

  pub arguments_tokens : {p : Profile} → Arguments p → List Token
  arguments_tokens (last a) = argument_tokens a
  arguments_tokens {p} (more a all) = argument_tokens a ++ separator_token p.locale ∷ arguments_tokens all

  pub argument_tokens : {p : Profile} → Argument p → List Token
  argument_tokens empty = []
  argument_tokens (given a) = expression_tokens a

-- ---- the tree

-- a lone argument that is empty is none
abbrev pub passed : {p : Profile} → Arguments p → List Node → List Node
passed (last empty) trees = []
passed (last (given a)) trees = trees
passed (more a all) trees = trees

abbrev mutual
  pub expression_tree : {p : Profile} {level : ℕ} → Expression p level → Node
  expression_tree (lift a) = expression_tree a
  expression_tree (joined op a b) = infix_node op (expression_tree a) (expression_tree b)
  expression_tree (followed op a) = postfix_node op (expression_tree a)
  expression_tree (signed op a) = prefix_node op (expression_tree a)
  expression_tree (number value) = n.Number value
  expression_tree (text value) = n.Text value
  expression_tree (error x) = n.Error x
  expression_tree {p} (reference sheet mark at is) = n.Reference sheet (corner_of p.place mark at)
  expression_tree {p} (range sheet first second start stop is also) = range_node p.place sheet (corner_of p.place first start) (corner_of p.place second stop)
  expression_tree (parentheses a) = expression_tree a
  expression_tree (array rows is) = n.Array (rows_lines rows)
  expression_tree (lambda a) = lambda_tree a
  expression_tree {p} (call name is all) = called p.language name (passed all (arguments_trees all))
  expression_tree {p} (word name) = worded p.language name

  pub lambda_tree : {p : Profile} → Lambda p → Node
  lambda_tree (function name is parameters body) = n.Lambda parameters (expression_tree body)
  lambda_tree (applied a all) = n.LambdaCall (lambda_tree a) (passed all (arguments_trees all))

  pub arguments_trees : {p : Profile} → Arguments p → List Node
  arguments_trees (last a) = argument_tree a ∷ []
  arguments_trees (more a all) = argument_tree a ∷ arguments_trees all

  pub argument_tree : {p : Profile} → Argument p → Node
  argument_tree empty = n.EmptyArgument
  argument_tree (given a) = expression_tree a

-- ---- how many parentheses that are no call's are open at once

abbrev mutual
  pub expression_open : {p : Profile} {level : ℕ} → Expression p level → ℕ
  expression_open (lift a) = expression_open a
  expression_open (joined op a b) = max (expression_open a) (expression_open b)
  expression_open (followed op a) = expression_open a
  expression_open (signed op a) = expression_open a
  expression_open (parentheses a) = suc (expression_open a)
  expression_open (lambda a) = lambda_open a
  expression_open (call name is all) = arguments_open all
  expression_open _ = 0

  pub lambda_open : {p : Profile} → Lambda p → ℕ
  lambda_open (function name is parameters body) = expression_open body
  lambda_open (applied a all) = max (lambda_open a) (arguments_open all)

  pub arguments_open : {p : Profile} → Arguments p → ℕ
  arguments_open (last a) = argument_open a
  arguments_open (more a all) = max (argument_open a) (arguments_open all)

  pub argument_open : {p : Profile} → Argument p → ℕ
  argument_open empty = 0
  argument_open (given a) = expression_open a

-- the tokens are in the grammar, as this tree: at most 64 deep, with at most 64 parentheses open at once that are no call's
pub record Derives (p : Profile) (ts : List Token) (tree : Node) : Type 0 where
  pub by : Expression p 10
  pub spells : expression_tokens by ≡ ts
  pub gives : expression_tree by ≡ tree
  pub shallow : depth_of tree ≤ 64
  pub open_few : expression_open by ≤ 64
