-- A recursion on how many turns are left, beside a loop that counts up to n: its next turn, and its end; and signs read one by one, and counted first.
use Rattle.std.proofs.Common.{◌≡◌, ℕ, suc, ◌+◌, ◌-◌, ◌<◌, ◌≤◌, cond, List, [], ◌∷◌, ◌++◌, Some, None, option_and_then, ap, arith, zero, Option, refl, sym, ◌∙◌}
use Rattle.base_tables.specs.declared.Locale.{Locale}
use Rattle.formula_tree.specs.declared.array_item.ArrayItem.{ArrayItem}
use Rattle.formula_tree.specs.declared.node.Node.{Node}
use Rattle.formula_tree.specs.declared.parameter.Parameter.{Parameter}
use Rattle.formula_tree.specs.declared.prefix.Prefix.{Prefix}
use Rattle.formula_tree.specs.Levels.{prefix_node}
use Rattle.formula_grammar.specs.declared.profile.Profile.{Profile}
use Rattle.formula_grammar.specs.declared.token.Token.{Token}
use Rattle.formula_grammar.specs.laws.Reading.{Parser, and_then, pure, shallow_tree, item, after_item, rows_next, rows_from, parameter, parameters_step, parameters_from, separator, argument, arguments_from, operator_at, turn, chain_step, chain_from, signed, expression, whole, Outcome, with_rest, make, sign_at, signed_step}
use Rattle.formula_grammar.specs.laws.Signs.{wrapped, counted, signs, making}
use Rattle.std.proofs.lemmas.Bool.Decides.{nat_tests}
use Rattle.formula_grammar.specs.Operators.{prefix_under, prefix_token}
use Rattle.formula_tree.specs.declared.prefix.Prefix.TheVariants as prefix

next : {X : Type 0} (f : ℕ → X) (n at : ℕ) → at < n → f (n - at) ≡ f (suc (n - (at + 1)))
next f n at h = let more : n - at ≡ suc (n - (at + 1)) = omega arith in ap f more

done : {X : Type 0} (f : ℕ → X) (n at : ℕ) → n ≤ at → f (n - at) ≡ f 0
done f n at h = let none : n - at ≡ 0 = omega arith in ap f none

pub deeper : {X : Type 0} (f : ℕ → X) (n : ℕ) → 0 < n → f n ≡ f (suc (n - 1))
deeper f n some = let e : n ≡ suc (n - 1) = omega arith in ap f e

pub chain_next : {Op : Type 0} (operator : Parser Op) (turn : Op → Node → Parser Node) (n at : ℕ) (left : Node) (ts : List Token) → at < n
    → chain_from operator turn (n - at) left ts ≡ chain_step operator turn (chain_from operator turn (n - (at + 1))) left ts (operator ts)
unfolding chain_from
chain_next operator turn n at left ts h = next (λ k. chain_from operator turn k left ts) n at h

pub chain_done : {Op : Type 0} (operator : Parser Op) (turn : Op → Node → Parser Node) (n at : ℕ) (left : Node) (ts : List Token) → n ≤ at → chain_from operator turn (n - at) left ts ≡ None
unfolding chain_from
chain_done operator turn n at left ts h = done (λ k. chain_from operator turn k left ts) n at h

pub expression_steps : (p : Profile) (inner : ℕ → Parser Node) (room level : ℕ) (ts : List Token) → 0 < level
    → expression p inner room level ts ≡ and_then (signed (level - 1) (expression p inner room (level - 1)) ts) (chain_from (operator_at (level - 1)) (turn (expression p inner room (level - 1))) 64)
unfolding expression
expression_steps p inner room level ts h = deeper (λ k. expression p inner room k ts) level h

pub whole_steps : (p : Profile) (nesting room : ℕ) (ts : List Token) → 0 < nesting → whole p nesting room ts ≡ expression p (whole p (nesting - 1)) room 10 ts
unfolding whole
whole_steps p nesting room ts h = deeper (λ k. whole p k room ts) nesting h

pub wrapped_next : (op : Prefix) (n at : ℕ) (tree : Node) → at < n → wrapped op (n - at) tree ≡ option_and_then (wrapped op (n - (at + 1))) (shallow_tree (prefix_node op tree))
wrapped_next op n at tree h = next (λ k. wrapped op k tree) n at h

pub wrapped_done : (op : Prefix) (n at : ℕ) (tree : Node) → n ≤ at → wrapped op (n - at) tree ≡ Some tree
wrapped_done op n at tree h = done (λ k. wrapped op k tree) n at h

pub row_next : (p : Profile) (n at : ℕ) (lines : List (List ArrayItem)) (line : List ArrayItem) (ts : List Token) → at < n
    → rows_from p (n - at) lines line ts ≡ and_then (item p.language ts) (λ x rest. and_then (after_item p.locale rest) (rows_next (rows_from p (n - (at + 1))) lines (line ++ x ∷ [])))
unfolding rows_from
row_next p n at lines line ts h = next (λ k. rows_from p k lines line ts) n at h

pub row_done : (p : Profile) (n at : ℕ) (lines : List (List ArrayItem)) (line : List ArrayItem) (ts : List Token) → n ≤ at → rows_from p (n - at) lines line ts ≡ None
unfolding rows_from
row_done p n at lines line ts h = done (λ k. rows_from p k lines line ts) n at h

pub parameter_next : (locale : Locale) (n at : ℕ) (found : List Parameter) (ts : List Token) → at < n
    → parameters_from locale (n - at) found ts ≡ parameters_step (parameters_from locale (n - (at + 1))) found ts (parameter locale ts)
unfolding parameters_from
parameter_next locale n at found ts h = next (λ k. parameters_from locale k found ts) n at h

pub parameter_done : (locale : Locale) (n at : ℕ) (found : List Parameter) (ts : List Token) → n ≤ at → parameters_from locale (n - at) found ts ≡ Some (found, ts)
unfolding parameters_from
parameter_done locale n at found ts h = done (λ k. parameters_from locale k found ts) n at h

pub argument_next : (p : Profile) (inner : ℕ → Parser Node) (room n at : ℕ) (found : List Node) (ts : List Token) → at < n
    → arguments_from p inner room (n - at) found ts ≡ and_then (argument p inner room ts)
    (λ x rest. and_then (separator p.locale rest) (λ goes_on. cond goes_on (arguments_from p inner room (n - (at + 1)) (found ++ x ∷ [])) (pure (found ++ x ∷ []))))
unfolding arguments_from
argument_next p inner room n at found ts h = next (λ k. arguments_from p inner room k found ts) n at h

pub argument_done : (p : Profile) (inner : ℕ → Parser Node) (room n at : ℕ) (found : List Node) (ts : List Token) → n ≤ at → arguments_from p inner room (n - at) found ts ≡ None
unfolding arguments_from
argument_done p inner room n at found ts h = done (λ k. arguments_from p inner room k found ts) n at h

pub ruleset turns = (chain_next, chain_done, expression_steps, whole_steps, wrapped_next, wrapped_done, row_next, row_done, parameter_next, parameter_done, argument_next, argument_done)

module _ (op : Prefix) where
  abbrev pub around : Outcome Node → ℕ → Outcome Node
  around o k = and_then o (λ tree rest. with_rest rest (wrapped op k tree))

  abbrev once : Option Node → Option Node
  once = option_and_then (λ m. shallow_tree (prefix_node op m))

  abbrev unit : Node → Option Node
  unit m = Some m

  some_same : (o : Option Node) → option_and_then unit o ≡ o
  some_same o = grind arith

  outer_some : (k : ℕ) → ((tree : Node) → once (wrapped op k tree) ≡ option_and_then (wrapped op k) (shallow_tree (prefix_node op tree)))
      → (o : Option Node) → once (option_and_then (wrapped op k) o) ≡ option_and_then (wrapped op (suc k)) o
  outer_some k again o = grind (arith, again)

  outer : (k : ℕ) (tree : Node) → once (wrapped op k tree) ≡ option_and_then (wrapped op k) (shallow_tree (prefix_node op tree))
  outer zero tree = sym (some_same (shallow_tree (prefix_node op tree)))
  outer (suc k) tree = outer_some k (outer k) (shallow_tree (prefix_node op tree))

  one_more_sign : (k : ℕ) (o : Outcome Node) → and_then (around o k) (λ tree. make (prefix_node op tree)) ≡ around o (suc k)
  one_more_sign k None = refl
  one_more_sign k (Some p) = turn (wrapped op k p.0) ∙ ap (with_rest p.1) (outer k p.0)
    where
      turn : (m : Option Node) → and_then (with_rest p.1 m) (λ tree. make (prefix_node op tree)) ≡ with_rest p.1 (once m)
      turn m = grind arith

  no_sign : (o : Outcome Node) → o ≡ around o 0
  no_sign o = grind arith

-- behind a plus sign nothing is made
plain : (o : Outcome Node) → and_then o pure ≡ o
plain o = grind arith

pub prefix_is : (under : ℕ) (x : Token) (op : Prefix) → sign_at under x ≡ Some op → (prefix_under op ≡ under) × (x ≡ prefix_token op)
prefix_is under x op e = grind (arith, nat_tests)

module _ (under : ℕ) (operand : Parser Node) where
  abbrev all_around : List Token → Outcome Node
  all_around ts = around (making under) (operand (signs under ts).1) (signs under ts).0

  -- a sign that makes a node
  made_sign : (op : Prefix) → making under ≡ op → (ts : List Token) (o : Outcome Node) → o ≡ all_around ts
      → and_then o (λ tree. make (prefix_node op tree)) ≡ around (making under) (operand (signs under ts).1) (suc (signs under ts).0)
  made_sign op is ts o e =
      ap (λ (o : Outcome Node). and_then o (λ tree. make (prefix_node op tree))) e
      ∙ ap (λ (x : Prefix). and_then (all_around ts) (λ tree. make (prefix_node x tree))) (sym is)
      ∙ one_more_sign (making under) (signs under ts).0 (operand (signs under ts).1)

  pub signed_counted : (ts : List Token) → signed under operand ts ≡ around (making under) (operand (signs under ts).1) (signs under ts).0
  unfolding signed
  signed_counted [] = no_sign (making under) (operand [])
  signed_counted (x ∷ ts) = go (signed under operand ts) (signed_counted ts) (sign_at under x) refl
    where
      go : (rest : Outcome Node) → rest ≡ all_around ts → (o : Option Prefix) → sign_at under x ≡ o → signed_step under operand (operand (x ∷ ts)) rest o
          ≡ around (making under) (operand (counted (x ∷ ts) (signs under ts) o).1) (counted (x ∷ ts) (signs under ts) o).0
      go rest again None e = no_sign (making under) (operand (x ∷ ts))
      go rest again (Some prefix.Plus) e = plain rest ∙ again
      go rest again (Some prefix.Minus) e = made_sign prefix.Minus (sym (ap making (prefix_is under x prefix.Minus e).0)) ts rest again
      go rest again (Some prefix.At) e = made_sign prefix.At (sym (ap making (prefix_is under x prefix.At e).0)) ts rest again
