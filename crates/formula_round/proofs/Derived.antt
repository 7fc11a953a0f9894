-- The tokens of a normal tree derive it.
use Rattle.std.specs.Prelude.{◌≡◌, ℕ, suc, ◌+◌, ◌-◌, ◌≤◌, max, Bool, true, false, not, ◌&&◌, if◌then◌else◌, nat_le, List, [], ◌∷◌, ◌++◌, length, map, codes}
use Rattle.std.specs.Prelude.{Option}
use Rattle.std.specs.List.{AllByRecursion, list_all}
use Rattle.std.proofs.Common.{refl, ap, sym, subst, ◌∙◌, arith}
use Rattle.std.proofs.lemmas.Bool.Decides.{nat_tests}
use Rattle.base_tables.specs.declared.Function.{Function}
use Rattle.base_tables.specs.Function.{function_name}
use Rattle.base_tables.specs.Tables.{lowered}
use Rattle.base_tables.specs.laws.Tables.{both_parts}
use Rattle.formula_tree.specs.declared.ArrayItem.{ArrayItem}
use Rattle.formula_tree.specs.declared.Corner.{Corner}
use Rattle.formula_tree.specs.declared.Node.{Node}
use Rattle.formula_tree.specs.declared.Node.TheOpen as layer
use Rattle.formula_tree.specs.declared.Node.TheVariants as n
use Rattle.formula_tree.specs.declared.Parameter.{Parameter}
use Rattle.formula_tree.specs.declared.SumKind.{SumKind}
use Rattle.formula_tree.specs.declared.SumKind.TheVariants.{Add, Subtract}
use Rattle.formula_tree.specs.declared.UnaryKind.{UnaryKind}
use Rattle.formula_tree.specs.declared.UnaryKind.TheVariants.{Minus, Percent}
use Rattle.formula_tree.specs.Corners.{is_inside}
use Rattle.formula_tree.specs.Depth.{depth_of, greatest}
use Rattle.formula_tree.specs.Placed.{is_placed_range}
use Rattle.formula_tree.specs.laws.Induction.{induct}
use Rattle.formula_tree.specs.declared.Infix.{Infix}
use Rattle.formula_tree.specs.declared.Infix.TheVariants as op
use Rattle.formula_tree.specs.declared.Postfix.TheVariants as postfix
use Rattle.formula_tree.specs.declared.Prefix.TheVariants as prefix
use Rattle.formula_tree.specs.Levels.{prefix_level, postfix_level, infix_node}
use Rattle.formula_print.specs.declared.Kind.{Kind}
use Rattle.formula_print.specs.declared.Kind.TheVariants as k
use Rattle.formula_print.specs.declared.Need.{Need}
use Rattle.formula_print.specs.declared.Need.TheVariants as need
use Rattle.formula_print.specs.Kinds.{is_lambda, left_need, right_need}
use Rattle.formula_print.specs.Print.{unary_kind}
use Rattle.formula_grammar.specs.declared.Profile.{Profile}
use Rattle.formula_grammar.specs.declared.Token.{Token}
use Rattle.formula_grammar.specs.declared.Token.TheVariants as t
use Rattle.formula_grammar.specs.Grammar.{Derives, number, text, error, array}
use Rattle.formula_grammar.specs.Normal.{Sort, lambda, other, Seen, is_sum, is_callee, operand, arguments, right_of_sum, is_normal}
use Rattle.formula_grammar.specs.Normal.{is_named, is_called_name, is_table, is_constant, is_parameter, has_item}
use Rattle.formula_grammar.specs.Operators.{infix_under, infix_token}
use Rattle.formula_grammar.specs.Words.{is_lambda as is_word_of_lambda, are_even}
use Rattle.formula_round.specs.Tokens.{Tokened, tokened, tokens_of, mark_of, in_parentheses, operand as operand_tokens}
use Rattle.formula_round.specs.Tokens.{infix_tokens, colon_tokens, unary_tokens, call_tokens, word_call_tokens, lambda_tokens, array_tokens}
use Rattle.formula_round.proofs.Arrays.{table}
use Rattle.formula_round.proofs.Calls.{listed, function_applicable, applied_applicable, applicable_expressed}
use Rattle.formula_round.proofs.Cells.{reference_expressed, range_expressed}
use Rattle.formula_round.proofs.Expressions.{Expressed, itself, looser, same_level}
use Rattle.formula_round.proofs.Layers.{holds_at}
use Rattle.formula_round.proofs.Named.{boolean_expressed, name_expressed, function_call_expressed, named_call_expressed}
use Rattle.formula_round.proofs.Operands.{stands, Own, whole, fits_within, infix_operands, prefix_operand, postfix_operand}
use Rattle.formula_round.proofs.Trees.{Applicable, Outcome, blank, given, sort_of, seen_of, Holds, operand_whole}

-- ---- what stands without parentheses

at_least : (least : ℕ) (kind : Kind) → fits_within (need.Level least) (11 - least) kind ≡ true
at_least least kind = grind (arith, nat_tests)

negated_within : (kind : Kind) → fits_within need.Negated 5 kind ≡ true
negated_within (k.Infix op.Power) = refl
negated_within (k.Prefix prefix.Minus) = refl
negated_within (k.Postfix postfix.Percent) = refl
negated_within _ = refl

base_within : (kind : Kind) → fits_within need.Base 6 kind ≡ true
base_within (k.Prefix prefix.Minus) = refl
base_within (k.Postfix postfix.Percent) = refl
base_within _ = refl

exponent_within : (kind : Kind) → fits_within need.Exponent 5 kind ≡ true
exponent_within k.Number = refl
exponent_within _ = refl

left_of_colon_within : (cell_follows : Bool) (kind : Kind) → fits_within (need.LeftOfColon cell_follows) 2 kind ≡ true
left_of_colon_within true (k.Infix op.Power) = refl
left_of_colon_within true (k.Prefix prefix.Minus) = refl
left_of_colon_within true (k.Postfix postfix.Percent) = refl
left_of_colon_within false (k.Infix op.Power) = refl
left_of_colon_within false (k.Prefix prefix.Minus) = refl
left_of_colon_within false (k.Postfix postfix.Percent) = refl
left_of_colon_within _ _ = refl

left_within : (operator : Infix) (kind : Kind) → fits_within (left_need operator) (suc (infix_under operator)) kind ≡ true
left_within (op.Compare _) kind = at_least 1 kind
left_within op.Concatenate kind = at_least 2 kind
left_within (op.Sum _) kind = at_least 3 kind
left_within (op.Product _) kind = at_least 4 kind
left_within op.Power kind = base_within kind
left_within op.Colon kind = at_least 9 kind

sum_within : (kind : Kind) → not (is_sum (sort_of kind)) ≡ true → fits_within (need.Level 3) 7 kind ≡ true
sum_within (k.Infix (op.Sum _)) is_no = absurd cc
sum_within (k.Prefix prefix.Minus) is_no = refl
sum_within (k.Postfix postfix.Percent) is_no = refl
sum_within _ is_no = refl

-- no sum stands on the right of `+`
abbrev may_stand_right : Infix → Kind → Bool
may_stand_right (op.Sum Add) kind = not (is_sum (sort_of kind))
may_stand_right _ kind = true

right_within : (operator : Infix) (kind : Kind) → may_stand_right operator kind ≡ true → fits_within (right_need operator) (infix_under operator) kind ≡ true
right_within (op.Compare _) kind may = at_least 2 kind
right_within op.Concatenate kind may = at_least 3 kind
right_within (op.Sum Add) kind may = sum_within kind may
right_within (op.Sum Subtract) kind may = at_least 4 kind
right_within (op.Product _) kind may = at_least 5 kind
right_within op.Power kind may = exponent_within kind
right_within op.Colon kind may = at_least 10 kind

right_of_sum_may : (kind : SumKind) (b : Kind) (seen : Seen) → seen.sort ≡ sort_of b → right_of_sum kind seen ≡ true → may_stand_right (op.Sum kind) b ≡ true
right_of_sum_may Add b seen sorted fine = ap (λ (s : Sort). not (is_sum s)) (sym sorted) ∙ fine
right_of_sum_may Subtract b seen sorted fine = refl

infix_stands : (operator : Infix) → suc (infix_under operator) ≡ stands (k.Infix operator)
infix_stands op.Power = refl
infix_stands _ = refl

callee_is_lambda : (kind : Kind) → is_callee (sort_of kind) ≡ true → is_lambda kind ≡ true
callee_is_lambda k.Lambda is = refl
callee_is_lambda (k.Infix (op.Sum _)) is = absurd cc
callee_is_lambda _ is = absurd cc

-- ---- outcomes

module _ {p : Profile} {tokens : List Token} {tree : Node} {below : ℕ} where
  expression : {kind : Kind} → is_lambda kind ≡ false → Expressed p (stands kind) tokens tree below → Outcome p kind tokens (sort_of kind) tree below
  expression is_no x = given (record { sorted = refl; expressed = x; applicable = λ is_yes. absurd cc })

  callable : Applicable p tokens tree below → Outcome p k.Lambda tokens lambda tree below
  callable f = given (record { sorted = refl; expressed = applicable_expressed f; applicable = λ _. f })

lambda_word : is_word_of_lambda (codes "LAMBDA") ≡ true
unfolding is_word_of_lambda
lambda_word = refl

module _ (p : Profile) where
  own : (a : Node) → Holds p a → operand (seen_of p a) ≡ true → Own p (tokened p a) a (depth_of a)
  own a holds fine = (operand_whole p a holds fine).expressed

  kind_of : Node → Kind
  kind_of a = (tokened p a).kind

  -- ---- operators

  module _ (a b : Node) (holds_a : Holds p a) (holds_b : Holds p b) where
    abbrev Joined : Infix → List Token → Type 0
    Joined operator tokens = Outcome p (k.Infix operator) tokens (sort_of (k.Infix operator)) (infix_node operator a b) (max (depth_of a) (depth_of b) + 1)

    joined : (operator : Infix) (left right : Need) → fits_within left (suc (infix_under operator)) (tokened p a).kind ≡ true
        → fits_within right (infix_under operator) (tokened p b).kind ≡ true → operand (seen_of p a) && operand (seen_of p b) ≡ true
        → Joined operator (operand_tokens left (tokened p a) ++ infix_token operator ∷ operand_tokens right (tokened p b))
    joined operator left right low_left low_right fine =
        let parts = both_parts (operand (seen_of p a)) (operand (seen_of p b)) fine in
        let x = infix_operands operator left right (tokened p a) (tokened p b) low_left low_right (own a holds_a parts.0) (own b holds_b parts.1) in
        expression refl (same_level (infix_stands operator) x)

    colon_outcome : operand (seen_of p a) && operand (seen_of p b) ≡ true → Joined op.Colon (colon_tokens (tokened p a) (tokened p b))
    colon_outcome fine =
        let follows = (tokened p b).cell_first in
        joined op.Colon (need.LeftOfColon follows) (right_need op.Colon) (left_of_colon_within follows (tokened p a).kind)
        (right_within op.Colon (tokened p b).kind refl) fine

    infix_outcome : (operator : Infix) → may_stand_right operator (tokened p b).kind ≡ true → operand (seen_of p a) && operand (seen_of p b) ≡ true
        → Joined operator (infix_tokens operator (tokened p a) (tokened p b))
    infix_outcome operator may fine =
        joined operator (left_need operator) (right_need operator) (left_within operator (tokened p a).kind) (right_within operator (tokened p b).kind may) fine

    sum_outcome : (kind : SumKind) → (operand (seen_of p a) && operand (seen_of p b)) && right_of_sum kind (seen_of p b) ≡ true
        → Joined (op.Sum kind) (infix_tokens (op.Sum kind) (tokened p a) (tokened p b))
    sum_outcome kind fine =
        let parts = both_parts (operand (seen_of p a) && operand (seen_of p b)) (right_of_sum kind (seen_of p b)) fine in
        let right = operand_whole p b holds_b (both_parts (operand (seen_of p a)) (operand (seen_of p b)) parts.0).1 in
        infix_outcome (op.Sum kind) (right_of_sum_may kind (tokened p b).kind (seen_of p b) right.sorted parts.1) parts.0

  module _ (a : Node) (holds : Holds p a) where
    unary_outcome : (kind : UnaryKind) → operand (seen_of p a) ≡ true
        → Outcome p (unary_kind kind) (unary_tokens kind (tokened p a)) other (n.Unary kind a) (depth_of a + 1)
    unary_outcome Minus fine =
        expression refl (prefix_operand prefix.Minus need.Negated (tokened p a) (negated_within (tokened p a).kind) (own a holds fine))
    unary_outcome Percent fine =
        expression refl (postfix_operand postfix.Percent (need.Level 7) (tokened p a) (at_least 7 (tokened p a).kind) (own a holds fine))

    spill_outcome : operand (seen_of p a) ≡ true
        → Outcome p (k.Postfix postfix.Spill) (operand_tokens (need.Level (postfix_level postfix.Spill)) (tokened p a) ++ t.Hash ∷ []) other (n.Spill a)
        (depth_of a + 1)
    spill_outcome fine = expression refl (postfix_operand postfix.Spill (need.Level 10) (tokened p a) (at_least 10 (tokened p a).kind) (own a holds fine))

    intersection_outcome : operand (seen_of p a) ≡ true
        → Outcome p (k.Prefix prefix.At) (t.At ∷ operand_tokens (need.Level (prefix_level prefix.At)) (tokened p a)) other (n.ImplicitIntersection a)
        (depth_of a + 1)
    intersection_outcome fine = expression refl (prefix_operand prefix.At (need.Level 8) (tokened p a) (at_least 8 (tokened p a).kind) (own a holds fine))

  -- ---- calls and lambdas

  function_call_outcome : (function : Function) (all : List Node) → AllByRecursion (Holds p) all → arguments (map (seen_of p) all) ≡ true
      → Outcome p k.Other (word_call_tokens p (function_name p.language function) (map (tokened p) all)) other (n.Call function all)
      (greatest (map depth_of all) + 1)
  function_call_outcome function all holds fine = expression refl (function_call_expressed function (listed p all holds fine))

  named_call_outcome : (name : List ℕ) (all : List Node) → AllByRecursion (Holds p) all
      → is_called_name p.language name && arguments (map (seen_of p) all) ≡ true
      → Outcome p k.Other (word_call_tokens p (lowered name) (map (tokened p) all)) other (n.NamedCall name all) (greatest (map depth_of all) + 1)
  named_call_outcome name all holds fine =
      let parts = both_parts (is_called_name p.language name) (arguments (map (seen_of p) all)) fine in
      expression refl (named_call_expressed name parts.0 (listed p all holds parts.1))

  lambda_outcome : (parameters : List Parameter) (a : Node) → Holds p a → list_all is_parameter parameters && operand (seen_of p a) ≡ true
      → Outcome p k.Lambda (lambda_tokens p parameters (tokened p a)) lambda (n.Lambda parameters a) (depth_of a + 1)
  lambda_outcome parameters a holds fine =
      let parts = both_parts (list_all is_parameter parameters) (operand (seen_of p a)) fine in
      let body = whole (tokened p a) (own a holds parts.1) in
      callable (function_applicable (codes "LAMBDA") lambda_word parameters (looser (depth_of a + 1) (omega arith) body))

  callee_applicable : (a : Tokened) (below : ℕ) (tree : Node) → is_lambda a.kind ≡ true → Applicable p a.tokens tree below
      → Applicable p (operand_tokens need.Callee a) tree below
  callee_applicable a below tree is f =
      subst (λ (tokens : List Token). Applicable p tokens tree below) (sym (ap (λ (b : Bool). if b then a.tokens else in_parentheses a.tokens) is)) f

  lambda_call_outcome : (a : Node) (all : List Node) → Holds p a → AllByRecursion (Holds p) all
      → (operand (seen_of p a) && is_callee (seen_of p a).sort) && arguments (map (seen_of p) all) ≡ true
      → Outcome p k.Lambda (call_tokens p (operand_tokens need.Callee (tokened p a)) (map (tokened p) all)) lambda (n.LambdaCall a all)
      (max (depth_of a) (greatest (map depth_of all)) + 1)
  lambda_call_outcome a all holds holds_all fine =
      let parts = both_parts (operand (seen_of p a) && is_callee (seen_of p a).sort) (arguments (map (seen_of p) all)) fine in
      let first = both_parts (operand (seen_of p a)) (is_callee (seen_of p a).sort) parts.0 in
      let callee = operand_whole p a holds first.0 in
      let is : is_lambda (tokened p a).kind ≡ true = callee_is_lambda (tokened p a).kind (ap is_callee (sym callee.sorted) ∙ first.1) in
      callable (applied_applicable (callee_applicable (tokened p a) (depth_of a) a is (callee.applicable is)) (listed p all holds_all parts.1))

  -- ---- leaves

  reference_outcome : (sheet : Option (List ℕ)) (corner : Corner) → is_named sheet && is_inside p.place corner ≡ true
      → Outcome p k.Reference (t.Reference sheet (mark_of p.place corner) ∷ []) other (n.Reference sheet corner) 1
  reference_outcome sheet corner fine = expression refl (reference_expressed p sheet corner (both_parts (is_named sheet) (is_inside p.place corner) fine).1)

  range_outcome : (sheet : Option (List ℕ)) (first second : Corner) → is_named sheet && is_placed_range p.place first second ≡ true
      → Outcome p k.Value (t.Range sheet (mark_of p.place first) (mark_of p.place second) ∷ []) other (n.Range sheet first second) 2
  range_outcome sheet first second fine =
      expression refl (range_expressed p sheet first second (both_parts (is_named sheet) (is_placed_range p.place first second) fine).1)

  array_outcome : (lines : List (List ArrayItem)) → is_table lines ≡ true → Outcome p k.Other (array_tokens p lines) other (n.Array lines) 1
  array_outcome [] fine = absurd cc
  array_outcome (line ∷ lines) fine =
      let full = nat_le 1 (length (line ∷ lines)) && list_all has_item (line ∷ lines) in
      let even_parts = both_parts (full && are_even (line ∷ lines)) (list_all (list_all is_constant) (line ∷ lines)) fine in
      let parts = both_parts full (are_even (line ∷ lines)) even_parts.0 in
      let rows = table p line lines (both_parts (nat_le 1 (length (line ∷ lines))) (list_all has_item (line ∷ lines)) parts.0).1 in
      expression refl (record {
        by = array rows.by (ap are_even rows.gives ∙ parts.1);
        spells = λ i. t.OpenBrace ∷ rows.spells i ++ t.CloseBrace ∷ [];
        gives = λ i. n.Array (rows.gives i);
        open_few = omega arith;
      })

  -- ---- trees

  -- a normal tree is an empty argument or an expression
  holds : (tree : Node) → Holds p tree
  holds = induct (Holds p) (record {
    boolean = λ value. holds_at p (layer.Boolean value) _ (n.rolls-Boolean value) (λ _. expression refl (boolean_expressed p value));
    number = λ value. holds_at p (layer.Number value) _ (n.rolls-Number value) (λ _. expression refl (itself (number value) (omega arith)));
    text = λ value. holds_at p (layer.Text value) _ (n.rolls-Text value) (λ _. expression refl (itself (text value) (omega arith)));
    reference = λ sheet corner. holds_at p (layer.Reference sheet corner) _ (n.rolls-Reference sheet corner) (reference_outcome sheet corner);
    range = λ sheet first second. holds_at p (layer.Range sheet first second) _ (n.rolls-Range sheet first second) (range_outcome sheet first second);
    colon = λ a b x y. holds_at p (layer.Colon a b) _ (n.rolls-Colon a b) (colon_outcome a b x y);
    concatenate = λ a b x y. holds_at p (layer.Concatenate a b) _ (n.rolls-Concatenate a b) (infix_outcome a b x y op.Concatenate refl);
    compare = λ kind a b x y. holds_at p (layer.Compare kind a b) _ (n.rolls-Compare kind a b) (infix_outcome a b x y (op.Compare kind) refl);
    sum = λ kind a b x y. holds_at p (layer.Sum kind a b) _ (n.rolls-Sum kind a b) (sum_outcome a b x y kind);
    product = λ kind a b x y. holds_at p (layer.Product kind a b) _ (n.rolls-Product kind a b) (infix_outcome a b x y (op.Product kind) refl);
    power = λ a b x y. holds_at p (layer.Power a b) _ (n.rolls-Power a b) (infix_outcome a b x y op.Power refl);
    unary = λ kind a x. holds_at p (layer.Unary kind a) _ (n.rolls-Unary kind a) (unary_outcome a x kind);
    call = λ function all x. holds_at p (layer.Call function all) _ (n.rolls-Call function all) (function_call_outcome function all x);
    named_call = λ name all x. holds_at p (layer.NamedCall name all) _ (n.rolls-NamedCall name all) (named_call_outcome name all x);
    array = λ lines. holds_at p (layer.Array lines) _ (n.rolls-Array lines) (array_outcome lines);
    name = λ name. holds_at p (layer.Name name) _ (n.rolls-Name name) (λ fine. expression refl (name_expressed p name fine));
    error = λ value. holds_at p (layer.Error value) _ (n.rolls-Error value) (λ _. expression refl (itself (error value) (omega arith)));
    parse_error = λ text. holds_at p (layer.ParseError text) _ (n.rolls-ParseError text) (λ fine. absurd cc);
    empty_argument = holds_at p layer.EmptyArgument _ n.rolls-EmptyArgument (λ _. blank refl refl refl);
    spill = λ a x. holds_at p (layer.Spill a) _ (n.rolls-Spill a) (spill_outcome a x);
    lambda = λ parameters a x. holds_at p (layer.Lambda parameters a) _ (n.rolls-Lambda parameters a) (lambda_outcome parameters a x);
    lambda_call = λ a all x y. holds_at p (layer.LambdaCall a all) _ (n.rolls-LambdaCall a all) (lambda_call_outcome a all x y);
    implicit_intersection = λ a x. holds_at p (layer.ImplicitIntersection a) _ (n.rolls-ImplicitIntersection a) (intersection_outcome a x);
  })

  at_most : (low high : ℕ) → nat_le low high ≡ true → low ≤ high
  at_most low high test = grind (arith, nat_tests)

  -- the tokens of a normal tree derive it
  pub tokens_derive : (tree : Node) → is_normal p.place p.language tree ≡ true → Derives p (tokens_of p tree) tree
  unfolding is_normal
  tokens_derive tree normal =
      let parts = both_parts (nat_le (depth_of tree) 64) (operand (seen_of p tree)) normal in
      let shallow : depth_of tree ≤ 64 = at_most (depth_of tree) 64 parts.0 in
      let x = whole (tokened p tree) (own tree (holds tree) parts.1) in
      record { by = x.by; spells = x.spells; gives = x.gives; shallow = shallow; open_few = let few = x.open_few in omega arith }
