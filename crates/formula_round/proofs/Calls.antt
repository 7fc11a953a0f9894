-- Arguments, calls and lambdas.
use Rattle.std.specs.Prelude.{◌≡◌, ℕ, ◌+◌, ◌<◌, max, true, false, List, [], ◌∷◌, ◌++◌, map}
use Rattle.std.specs.List.{AllByRecursion, list_all}
use Rattle.std.proofs.Common.{refl, ap, sym, ◌∙◌, arith}
use Rattle.std.proofs.lemmas.List.{append_assoc, append-nil}
use Rattle.base_tables.specs.laws.Tables.{both_parts}
use Rattle.formula_tree.specs.declared.Node.{Node}
use Rattle.formula_tree.specs.declared.Node.TheVariants as n
use Rattle.formula_tree.specs.declared.Parameter.{Parameter}
use Rattle.formula_tree.specs.Depth.{depth_of, greatest}
use Rattle.formula_grammar.specs.declared.Profile.{Profile}
use Rattle.formula_grammar.specs.declared.Token.{Token}
use Rattle.formula_grammar.specs.declared.Token.TheVariants as t
use Rattle.formula_grammar.specs.Grammar.{Argument, empty, given, argument_tokens, argument_tree, argument_open}
use Rattle.formula_grammar.specs.Grammar.{Arguments, last, more, passed, arguments_trees, arguments_open, call, lambda, function, applied, parameters_tokens}
use Rattle.formula_grammar.specs.Grammar as grammar
use Rattle.formula_grammar.specs.Normal.{Seen, arguments}
use Rattle.formula_grammar.specs.Words.{separator_token, is_lambda, called}
use Rattle.formula_round.specs.Tokens.{tokened, arguments_tokens, in_parentheses}
use Rattle.formula_round.proofs.Expressions.{Expressed}
use Rattle.formula_round.proofs.Operands.{whole}
use Rattle.formula_round.proofs.Trees.{Applicable, Outcome, blank, given as not_blank, seen_of, Holds, operand_whole}

-- ---- arguments

record Argued (p : Profile) (tokens : List Token) (tree : Node) (below : ℕ) : Type 0 where
  pub by : Argument p
  pub spells : argument_tokens by ≡ tokens
  pub gives : argument_tree by ≡ tree
  pub open_few : argument_open by < below + 1

-- the tokens are arguments, each with one of the trees
record Continued (p : Profile) (tokens : List Token) (trees : List Node) (below : ℕ) : Type 0 where
  pub by : Arguments p
  pub spells : grammar.arguments_tokens by ≡ tokens
  pub gives : arguments_trees by ≡ trees
  pub open_few : arguments_open by < below + 1

-- the tokens are the arguments of a call with these trees
pub record Listed (p : Profile) (tokens : List Token) (trees : List Node) (below : ℕ) : Type 0 where
  pub by : Arguments p
  pub spells : grammar.arguments_tokens by ≡ tokens
  pub gives : passed by (arguments_trees by) ≡ trees
  pub open_few : arguments_open by < below + 1

module _ (p : Profile) where
  argued : (a : Node) → Outcome p (tokened p a).kind (tokened p a).tokens (seen_of p a).sort a (depth_of a) → Argued p (tokened p a).tokens a (depth_of a)
  argued a (blank is spells gives) = record { by = empty; spells = sym spells; gives = sym gives; open_few = omega arith }
  argued a (not_blank is) =
      let x = whole (tokened p a) is.expressed in
      record { by = given x.by; spells = x.spells; gives = x.gives; open_few = let few = x.open_few in omega arith }

  abbrev all_fine : List Node → Type 0
  all_fine all = list_all (λ (x : Seen). x.is_fine) (map (seen_of p) all) ≡ true

  abbrev beside : {tokens rest_tokens : List Token} {tree : Node} {trees : List Node} {m n : ℕ} → Argued p tokens tree m → Continued p rest_tokens trees n
      → Continued p (tokens ++ separator_token p.locale ∷ rest_tokens) (tree ∷ trees) (max m n)
  beside x rest = record {
    by = more x.by rest.by;
    spells = λ i. x.spells i ++ separator_token p.locale ∷ rest.spells i;
    gives = λ i. x.gives i ∷ rest.gives i;
    open_few = let few = x.open_few in let few_rest = rest.open_few in omega arith;
  }

  continued : (a : Node) (all : List Node) → AllByRecursion (Holds p) (a ∷ all) → all_fine (a ∷ all)
      → Continued p (arguments_tokens p (map (tokened p) (a ∷ all))) (a ∷ all) (greatest (map depth_of (a ∷ all)))
  continued a [] holds fine =
      let x = argued a (holds.0 (both_parts (seen_of p a).is_fine true fine).0) in
      record { by = last x.by; spells = x.spells ∙ sym (append-nil _); gives = λ i. x.gives i ∷ []; open_few = let few = x.open_few in omega arith }
  continued a (b ∷ all) holds fine =
      let parts = both_parts (seen_of p a).is_fine (list_all (λ (x : Seen). x.is_fine) (map (seen_of p) (b ∷ all))) fine in
      let x = argued a (holds.0 parts.0) in
      let rest = continued b all holds.1 parts.1 in
      beside x rest

  -- the arguments of a normal call
  pub listed : (all : List Node) → AllByRecursion (Holds p) all → arguments (map (seen_of p) all) ≡ true
      → Listed p (arguments_tokens p (map (tokened p) all)) all (greatest (map depth_of all))
  listed [] holds fine = record { by = last empty; spells = refl; gives = refl; open_few = omega arith }
  listed (a ∷ []) holds fine =
      let x = whole (tokened p a) (operand_whole p a holds.0 fine).expressed in
      record { by = last (given x.by); spells = x.spells ∙ sym (append-nil _); gives = λ i. x.gives i ∷ []; open_few = let few = x.open_few in omega arith }
  listed (a ∷ b ∷ all) holds fine =
      let parts = both_parts (seen_of p a).is_fine (list_all (λ (x : Seen). x.is_fine) (map (seen_of p) (b ∷ all))) fine in
      let x = argued a (holds.0 parts.0) in
      let rest = continued b all holds.1 parts.1 in
      let both = beside x rest in
      record { by = both.by; spells = both.spells; gives = both.gives; open_few = both.open_few }

-- ---- calls

module _ {p : Profile} {tokens : List Token} {below : ℕ} where
  pub call_expressed : {trees : List Node} (word : List ℕ) → is_lambda word ≡ false → Listed p tokens trees below
      → Expressed p 0 (t.Word word ∷ in_parentheses tokens) (called p.language word trees) (below + 1)
  call_expressed word is_no x = record {
    by = call word is_no x.by;
    spells = λ i. t.Word word ∷ in_parentheses (x.spells i);
    gives = λ i. called p.language word (x.gives i);
    open_few = x.open_few;
  }

  pub function_applicable : {tree : Node} (word : List ℕ) → is_lambda word ≡ true → (parameters : List Parameter) → Expressed p 10 tokens tree below
      → Applicable p (t.Word word ∷ in_parentheses (parameters_tokens p parameters ++ tokens)) (n.Lambda parameters tree) below
  function_applicable word is_yes parameters x = record {
    by = function word is_yes parameters x.by;
    spells = (λ i. t.Word word ∷ t.OpenParenthesis ∷ parameters_tokens p parameters ++ (x.spells i ++ t.CloseParenthesis ∷ []))
        ∙ ap (λ (l : List Token). t.Word word ∷ t.OpenParenthesis ∷ l) (sym (append_assoc (parameters_tokens p parameters) tokens (t.CloseParenthesis ∷ [])));
    gives = λ i. n.Lambda parameters (x.gives i);
    open_few = x.open_few;
  }

  pub applied_applicable : {called_tokens : List Token} {tree : Node} {trees : List Node} {m : ℕ} → Applicable p called_tokens tree m
      → Listed p tokens trees below
      → Applicable p (called_tokens ++ in_parentheses tokens) (n.LambdaCall tree trees) (max m below + 1)
  applied_applicable f x = record {
    by = applied f.by x.by;
    spells = λ i. f.spells i ++ in_parentheses (x.spells i);
    gives = λ i. n.LambdaCall (f.gives i) (x.gives i);
    open_few = let few = f.open_few in let few_arguments = x.open_few in omega arith;
  }

  -- a lambda stands at every level
  pub applicable_expressed : {tree : Node} → Applicable p tokens tree below → Expressed p 0 tokens tree below
  applicable_expressed f = record { by = lambda f.by; spells = f.spells; gives = f.gives; open_few = f.open_few }
