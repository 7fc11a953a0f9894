-- What holds of each tree that the grammar derives: its numbers are as those of the tokens, its corners are inside the sheet and those of ranges in order, and it is
-- no text outside of the grammar.
use Rattle.std.proofs.Common.{◌≡◌, ℕ, ℤ, pos, Bool, true, List, [], ◌∷◌, ◌++◌, Option, Some, Ok, refl, sym, ◌∙◌, arith}
use Rattle.std.specs.Prelude.{◌&&◌, not, neg_ℤ, unsigned_abs}
use Rattle.std.specs.List.{list_all}
use Rattle.std.proofs.lemmas.Bool.{and_parts, and_from}
use Rattle.std.proofs.lemmas.List.Folds.{list_all-append}
use Rattle.base_values.specs.declared.Position.{Position}
use Rattle.base_values.specs.Places.{is_line, place_of}
use Rattle.base_tables.specs.declared.Error.{Error}
use Rattle.base_tables.specs.declared.Function.{Function}
use Rattle.base_tables.specs.Function.{function_of_name}
use Rattle.base_tables.specs.Language.{boolean_of_text}
use Rattle.base_decimal.specs.declared.Decimal.{Decimal}
use Rattle.base_decimal.specs.Canonical.{is_canonical}
use Rattle.formula_tree.specs.declared.array_item.ArrayItem.{ArrayItem}
use Rattle.formula_tree.specs.declared.corner.Corner.{Corner}
use Rattle.formula_tree.specs.declared.node.Node.{Node}
use Rattle.formula_tree.specs.declared.node.Node.TheVariants as n
use Rattle.formula_tree.specs.declared.numbers.NumberRule.{NumberRule}
use Rattle.formula_tree.specs.declared.parameter.Parameter.{Parameter}
use Rattle.formula_tree.specs.Corners.{is_inside, lower_corner, higher_corner}
use Rattle.formula_tree.specs.Numbers.{constant_follows, lines_follow, numbers_follow}
use Rattle.formula_tree.specs.ParseError.{is_parse_error}
use Rattle.formula_tree.specs.Placed.{is_placed}
use Rattle.formula_tree.specs.laws.CornerLaws.{corner_row-corner_to, corner_column-corner_to}
use Rattle.formula_tree.specs.laws.NumbersEquations.{numbers_array, numberings}
use Rattle.formula_tree.specs.laws.ParseErrorEquations.{parse_errors}
use Rattle.formula_tree.specs.laws.PlacedEquations.{placed_range, placings}
use Rattle.formula_tree.specs.laws.PlacedLaws.{ordered_placed}
use Rattle.formula_tree.specs.declared.infix.Infix.{Infix}
use Rattle.formula_tree.specs.declared.postfix.Postfix.{Postfix}
use Rattle.formula_tree.specs.declared.prefix.Prefix.{Prefix}
use Rattle.formula_tree.specs.Levels.{infix_node, prefix_node, postfix_node}
use Rattle.formula_grammar.specs.declared.profile.Profile.{Profile}
use Rattle.formula_grammar.specs.declared.token.CellMark.{CellMark}
use Rattle.formula_grammar.specs.declared.token.Token.{Token}
use Rattle.formula_grammar.specs.declared.token.Token.TheVariants as t
use Rattle.formula_grammar.specs.Operators.{infix_token, postfix_token}
use Rattle.formula_grammar.specs.Words.{separator_token, row_token, call_node, word_node, mark_place, corner_of, range_node, negated}
use Rattle.formula_grammar.specs.Grammar as G
use Rattle.formula_grammar.specs.Grammar.{Item, Rows, item_tokens, item_value, rows_tokens, rows_lines, before_line, parameters_tokens, Expression, Lambda, Arguments, Argument, expression_tokens, lambda_tokens, arguments_tokens, argument_tokens, passed, expression_tree, lambda_tree, arguments_trees, argument_tree}
use Rattle.formula_grammar.specs.Numbers.{token_follows, tokens_follow}

-- the test holds of each kind of node where it holds of the parts, and of what tokens become where they are as they should be
record Keeps (p : Profile) (is_right : Token → Bool) (test : Node → Bool) : Type 0 where
  infixes : (op : Infix) (a b : Node) → test a ≡ true → test b ≡ true → test (infix_node op a b) ≡ true
  postfixes : (op : Postfix) (a : Node) → test a ≡ true → test (postfix_node op a) ≡ true
  prefixes : (op : Prefix) (a : Node) → test a ≡ true → test (prefix_node op a) ≡ true
  number : (value : Decimal) → is_right (t.Number value) ≡ true → test (n.Number value) ≡ true
  text : (value : List ℕ) → test (n.Text value) ≡ true
  error : (x : Error) → test (n.Error x) ≡ true
  reference : (sheet : Option (List ℕ)) (mark : CellMark) (at : Position) → mark_place mark ≡ Ok at → test (n.Reference sheet (corner_of p.place mark at)) ≡ true
  range : (sheet : Option (List ℕ)) (first second : CellMark) (start stop : Position) → mark_place first ≡ Ok start → mark_place second ≡ Ok stop
      → test (range_node p.place sheet (corner_of p.place first start) (corner_of p.place second stop)) ≡ true
  array : (rows : Rows p) → list_all is_right (rows_tokens rows) ≡ true → test (n.Array (rows_lines rows)) ≡ true
  call : (function : Option Function) (word : List ℕ) (all : List Node) → list_all test all ≡ true → test (call_node function word all) ≡ true
  word : (value : Option Bool) (word : List ℕ) → test (word_node value word) ≡ true
  lambda : (parameters : List Parameter) (a : Node) → test a ≡ true → test (n.Lambda parameters a) ≡ true
  lambda_call : (a : Node) (all : List Node) → test a ≡ true → list_all test all ≡ true → test (n.LambdaCall a all) ≡ true
  empty : test n.EmptyArgument ≡ true

module _ (is_right : Token → Bool) (test : Node → Bool) where
  abbrev Right : List Token → Type 0
  Right ts = list_all is_right ts ≡ true

  -- of two lists beside one another
  parted : (xs ys : List Token) → Right (xs ++ ys) → Right xs × Right ys
  parted xs ys e = and_parts _ _ (sym (list_all-append is_right xs ys) ∙ e)

  after : (x : Token) (ts : List Token) → Right (x ∷ ts) → Right ts
  after x ts e = (and_parts (is_right x) (list_all is_right ts) e).1

  before : (xs ys : List Token) → Right (xs ++ ys) → Right xs
  before xs ys e = (parted xs ys e).0

  behind : (xs : List Token) (x : Token) (ys : List Token) → Right (xs ++ x ∷ ys) → Right ys
  behind xs x ys e = after x ys (parted xs (x ∷ ys) e).1

  passed_holds : {p : Profile} (d : Arguments p) → list_all test (arguments_trees d) ≡ true → list_all test (passed d (arguments_trees d)) ≡ true
  passed_holds d e = grind arith

  mutual
    expression_holds : {p : Profile} (k : Keeps p is_right test) {level : ℕ} (d : Expression p level) → Right (expression_tokens d) → test (expression_tree d) ≡ true
    expression_holds k (G.lift a) e = expression_holds k a e
    expression_holds k (G.joined op a b) e =
        k.infixes op _ _ (expression_holds k a (before (expression_tokens a) _ e)) (expression_holds k b (behind (expression_tokens a) (infix_token op) _ e))
    expression_holds k (G.followed op a) e = k.postfixes op _ (expression_holds k a (before (expression_tokens a) (postfix_token op ∷ []) e))
    expression_holds k (G.signed op a) e = k.prefixes op _ (expression_holds k a (after _ (expression_tokens a) e))
    expression_holds k (G.number value) e = k.number value (and_parts _ _ e).0
    expression_holds k (G.parentheses a) e = expression_holds k a (before (expression_tokens a) (t.CloseParenthesis ∷ []) (after _ _ e))
    expression_holds k (G.array rows is) e = k.array rows (before (rows_tokens rows) (t.CloseBrace ∷ []) (after _ _ e))
    expression_holds k (G.lambda a) e = lambda_holds k a e
    expression_holds {p} k (G.call name is all) e =
        k.call (function_of_name p.language name) name (passed all (arguments_trees all))
        (passed_holds all (arguments_hold k all (before (arguments_tokens all) (t.CloseParenthesis ∷ []) (behind (t.Word name ∷ []) t.OpenParenthesis _ e))))
    expression_holds {p} k (G.word name) e = k.word (boolean_of_text p.language name) name
    expression_holds k (G.reference sheet mark at is) e = k.reference sheet mark at is
    expression_holds k (G.range sheet first second start stop is also) e = k.range sheet first second start stop is also
    expression_holds k (G.text value) e = k.text value
    expression_holds k (G.error x) e = k.error x

    lambda_holds : {p : Profile} (k : Keeps p is_right test) (d : Lambda p) → Right (lambda_tokens d) → test (lambda_tree d) ≡ true
    lambda_holds {p} k (G.function name is parameters body) e = k.lambda parameters (expression_tree body) (expression_holds k body
        (before (expression_tokens body) (t.CloseParenthesis ∷ []) (parted (parameters_tokens p parameters) _ (behind (t.Word name ∷ []) t.OpenParenthesis _ e)).1))
    lambda_holds k (G.applied a all) e =
        k.lambda_call (lambda_tree a) (passed all (arguments_trees all)) (lambda_holds k a (before (lambda_tokens a) _ e))
        (passed_holds all (arguments_hold k all (before (arguments_tokens all) _ (behind (lambda_tokens a) t.OpenParenthesis _ e))))

    arguments_hold : {p : Profile} (k : Keeps p is_right test) (d : Arguments p) → Right (arguments_tokens d) → list_all test (arguments_trees d) ≡ true
    arguments_hold k (G.last a) e = and_from _ _ (argument_holds k a e) refl
    arguments_hold {p} k (G.more a all) e =
        and_from _ _ (argument_holds k a (before (argument_tokens a) _ e)) (arguments_hold k all (behind (argument_tokens a) (separator_token p.locale) _ e))

    argument_holds : {p : Profile} (k : Keeps p is_right test) (d : Argument p) → Right (argument_tokens d) → test (argument_tree d) ≡ true
    argument_holds k G.empty e = k.empty
    argument_holds k (G.given a) e = expression_holds k a e

-- ---- numbers

-- a number is as long as its opposite
same_size : (z : ℤ) → unsigned_abs (neg_ℤ z) ≡ unsigned_abs z
same_size z = grind arith

-- and is kept where it is
kept_negated : (number value : Decimal) → negated number ≡ Some value → is_canonical number ≡ true → is_canonical value ≡ true
unfolding negated is_canonical
kept_negated number value e kept = grind (arith, same_size)

item_follows : {p : Profile} (r : NumberRule) (x : Item p) → tokens_follow r (item_tokens x) ≡ true → constant_follows r (item_value x) ≡ true
item_follows r x e = grind (arith, kept_negated)

before_follows : (r : NumberRule) (x : ArrayItem) (lines : List (List ArrayItem)) → constant_follows r x ≡ true → lines_follow r lines ≡ true
    → lines_follow r (before_line x lines) ≡ true
before_follows r x lines e rest = grind arith

rows_follow : {p : Profile} (r : NumberRule) (rows : Rows p) → tokens_follow r (rows_tokens rows) ≡ true → lines_follow r (rows_lines rows) ≡ true
rows_follow r (G.last x) e = and_from _ _ (and_from _ _ (item_follows r x e) refl) refl
rows_follow {p} r (G.beside x rows) e =
    before_follows r (item_value x) (rows_lines rows) (item_follows r x (before (token_follows r) (numbers_follow r) (item_tokens x) _ e))
    (rows_follow r rows (behind (token_follows r) (numbers_follow r) (item_tokens x) (separator_token p.locale) _ e))
rows_follow {p} r (G.above x rows) e =
    and_from _ _ (and_from _ _ (item_follows r x (before (token_follows r) (numbers_follow r) (item_tokens x) _ e)) refl)
    (rows_follow r rows (behind (token_follows r) (numbers_follow r) (item_tokens x) (row_token p.locale) _ e))

array_follows : {p : Profile} (r : NumberRule) (rows : Rows p) → tokens_follow r (rows_tokens rows) ≡ true → numbers_follow r (n.Array (rows_lines rows)) ≡ true
array_follows r rows e = numbers_array r (rows_lines rows) ∙ rows_follow r rows e

pub expression_follows : {p : Profile} (r : NumberRule) {level : ℕ} (d : Expression p level) → tokens_follow r (expression_tokens d) ≡ true
    → numbers_follow r (expression_tree d) ≡ true
expression_follows {p} r d = expression_holds (token_follows r) (numbers_follow r) keeps d
  where
    keeps : Keeps p (token_follows r) (numbers_follow r)
    keeps = search (arith, numberings, array_follows)

-- ---- corners

-- what a pair of numbers is the place of is inside
at_inside : (row column : ℤ) (at : Position) → place_of row column ≡ Ok at → is_line (pos 1048576) at.row && is_line (pos 16384) at.column ≡ true
unfolding place_of
at_inside row column at e = grind arith

corner_inside : (place : Position) (mark : CellMark) (at : Position) → mark_place mark ≡ Ok at → is_inside place (corner_of place mark at) ≡ true
unfolding is_inside
corner_inside place mark at e =
    rw (corner_row-corner_to place mark.absolute_row mark.absolute_column at, corner_column-corner_to place mark.absolute_row mark.absolute_column at)
    (at_inside mark.row mark.column at e)

-- the corners of a range that are inside are placed once they are in order
range_placed : (place : Position) (sheet : Option (List ℕ)) (a b : Corner) → is_inside place a ≡ true → is_inside place b ≡ true
    → is_placed place (range_node place sheet a b) ≡ true
range_placed place sheet a b inside_a inside_b =
    placed_range place sheet (lower_corner place a b) (higher_corner place a b) ∙ ordered_placed place a b (and_from _ _ inside_a inside_b)

-- any token will do
abbrev any : Token → Bool
any x = true

any_right : (ts : List Token) → list_all any ts ≡ true
any_right [] = refl
any_right (x ∷ ts) = any_right ts

pub expression_placed : {p : Profile} {level : ℕ} (d : Expression p level) → is_placed p.place (expression_tree d) ≡ true
expression_placed {p} d = expression_holds any (is_placed p.place) keeps d (any_right (expression_tokens d))
  where
    keeps : Keeps p any (is_placed p.place)
    keeps = search (arith, placings, corner_inside, range_placed)

-- ---- no text outside of the grammar

pub expression_formula : {p : Profile} {level : ℕ} (d : Expression p level) → not (is_parse_error (expression_tree d)) ≡ true
expression_formula {p} d = expression_holds any (λ tree. not (is_parse_error tree)) keeps d (any_right (expression_tokens d))
  where
    keeps : Keeps p any (λ tree. not (is_parse_error tree))
    keeps = search (arith, parse_errors)
