-- The depth of what is read, the limit, and how often a chain goes on below it.
use Rattle.std.proofs.Common.{◌≡◌, ℕ, ◌+◌, ◌<◌, ◌≤◌, max, Bool, List, [], ◌∷◌, ◌++◌, map, Option, Some, None, refl, arith, suc}
use Rattle.std.proofs.lemmas.Bool.{le-leb, lt-leb}
use Rattle.base_tables.specs.declared.Function.{Function}
use Rattle.base_tables.specs.declared.Language.{Language}
use Rattle.base_tables.specs.Function.{function_of_name}
use Rattle.base_tables.specs.Language.{boolean_of_text}
use Rattle.formula_tree.specs.declared.corner.Corner.{Corner}
use Rattle.formula_tree.specs.declared.node.Node.{Node}
use Rattle.base_values.specs.declared.Position.{Position}
use Rattle.formula_tree.specs.Depth.{depth_of, greatest}
use Rattle.formula_tree.specs.laws.DepthEquations.{depths as tree_depths, depth_lambda_call}
use Rattle.formula_tree.specs.declared.infix.Infix.{Infix}
use Rattle.formula_tree.specs.declared.postfix.Postfix.{Postfix}
use Rattle.formula_tree.specs.declared.prefix.Prefix.{Prefix}
use Rattle.formula_tree.specs.Levels.{infix_node, prefix_node, postfix_node}
use Rattle.formula_grammar.specs.Words.{call_node, called, word_node, worded, range_node}
use Rattle.formula_grammar.specs.laws.Reading.{shallow_tree}
use Rattle.formula_tree.specs.laws.DepthLaws.{depth_positive}
use Rattle.formula_grammar.specs.declared.profile.Profile.{Profile}
use Rattle.formula_grammar.specs.Grammar.{Expression, Lambda, expression_tree, lambda_tree, arguments_trees, passed}
use Rattle.formula_grammar.specs.Grammar as G

depth_call_node : (function : Option Function) (word : List ℕ) (all : List Node) → depth_of (call_node function word all) ≡ greatest (map depth_of all) + 1
depth_call_node function word all = grind (arith, tree_depths)

pub depth_called : (language : Language) (word : List ℕ) (all : List Node) → depth_of (called language word all) ≡ greatest (map depth_of all) + 1
depth_called language word all = depth_call_node (function_of_name language word) word all

depth_word_node : (value : Option Bool) (word : List ℕ) → depth_of (word_node value word) ≡ 1
depth_word_node value word = grind (arith, tree_depths)

pub depth_worded : (language : Language) (word : List ℕ) → depth_of (worded language word) ≡ 1
depth_worded language word = depth_word_node (boolean_of_text language word) word

pub depth_infix : (op : Infix) (a b : Node) → depth_of (infix_node op a b) ≡ max (depth_of a) (depth_of b) + 1
depth_infix op a b = grind (arith, tree_depths)

pub depth_postfix : (op : Postfix) (a : Node) → depth_of (postfix_node op a) ≡ depth_of a + 1
depth_postfix op a = grind (arith, tree_depths)

pub depth_prefix : (op : Prefix) (a : Node) → depth_of a ≤ depth_of (prefix_node op a)
depth_prefix op a = grind (arith, tree_depths)

pub depth_range_node : (place : Position) (sheet : Option (List ℕ)) (a b : Corner) → depth_of (range_node place sheet a b) ≡ 2
depth_range_node place sheet a b = search tree_depths

pub shallow_tree-shallow : (x : Node) → depth_of x ≤ 64 → shallow_tree x ≡ Some x
unfolding shallow_tree
shallow_tree-shallow x h = rw (le-leb (depth_of x) 64 h) refl

pub shallow_tree-deep : (x : Node) → 64 < depth_of x → shallow_tree x ≡ None
unfolding shallow_tree
shallow_tree-deep x h = rw (lt-leb (depth_of x) 64 h) refl

pub ruleset depths = (tree_depths, depth_called, depth_worded, depth_infix, depth_postfix, depth_range_node, shallow_tree-shallow, shallow_tree-deep)

pub greatest_push : (xs : List Node) (x : Node) → greatest (map depth_of (xs ++ x ∷ [])) ≡ max (greatest (map depth_of xs)) (depth_of x)
greatest_push [] x = omega arith
greatest_push (y ∷ xs) x = omega (arith, greatest_push xs x)

abbrev pub expression_turns : {p : Profile} {level : ℕ} → Expression p level → ℕ
expression_turns (G.joined op a b) = suc (expression_turns a)
expression_turns (G.followed op a) = suc (expression_turns a)
expression_turns _ = 0

abbrev pub lambda_turns : {p : Profile} → Lambda p → ℕ
lambda_turns (G.function word is parameters body) = 0
lambda_turns (G.applied a all) = suc (lambda_turns a)

pub expression_turns-lt : {p : Profile} {level : ℕ} (d : Expression p level) → expression_turns d < depth_of (expression_tree d)
expression_turns-lt (G.joined op a b) = omega (arith, expression_turns-lt a, depth_infix op (expression_tree a) (expression_tree b))
expression_turns-lt (G.followed op a) = omega (arith, expression_turns-lt a, depth_postfix op (expression_tree a))
expression_turns-lt d = depth_positive (expression_tree d)

pub lambda_turns-lt : {p : Profile} (d : Lambda p) → lambda_turns d < depth_of (lambda_tree d)
lambda_turns-lt (G.applied a all) = omega (arith, lambda_turns-lt a, depth_lambda_call (lambda_tree a) (passed all (arguments_trees all)))
lambda_turns-lt d = depth_positive (lambda_tree d)
