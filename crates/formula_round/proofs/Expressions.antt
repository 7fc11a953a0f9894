-- Tokens that are an expression of a level with a tree: by lifting, by operators and by parentheses.
use Rattle.std.specs.Prelude.{◌≡◌, ℕ, zero, suc, ◌+◌, ◌<◌, ◌≤◌, max, Bool, true, false, nat_le, List, [], ◌∷◌, ◌++◌}
use Rattle.std.proofs.Common.{refl, subst, arith}
use Rattle.std.proofs.lemmas.Bool.Decides.{nat_tests}
use Rattle.formula_tree.specs.declared.Node.{Node}
use Rattle.formula_tree.specs.declared.Infix.{Infix}
use Rattle.formula_tree.specs.declared.Postfix.{Postfix}
use Rattle.formula_tree.specs.declared.Prefix.{Prefix}
use Rattle.formula_tree.specs.Levels.{infix_node, prefix_node, postfix_node}
use Rattle.formula_grammar.specs.declared.Profile.{Profile}
use Rattle.formula_grammar.specs.declared.Token.{Token}
use Rattle.formula_grammar.specs.Grammar.{Expression, lift, joined, followed, signed, parentheses, expression_tokens, expression_tree, expression_open}
use Rattle.formula_grammar.specs.Operators.{infix_under, prefix_under, postfix_under, infix_token, prefix_token, postfix_token}
use Rattle.formula_round.specs.Tokens.{in_parentheses}

-- the tokens are an expression of the level with this tree, in which fewer parentheses than so many are open at once
pub record Expressed (p : Profile) (level : ℕ) (tokens : List Token) (tree : Node) (below : ℕ) : Type 0 where
  pub by : Expression p level
  pub spells : expression_tokens by ≡ tokens
  pub gives : expression_tree by ≡ tree
  pub open_few : expression_open by < below

module _ {p : Profile} where
  pub itself : {level below : ℕ} (x : Expression p level) → expression_open x < below → Expressed p level (expression_tokens x) (expression_tree x) below
  itself x few = record { by = x; spells = refl; gives = refl; open_few = few }

  module _ {tokens : List Token} {tree : Node} where
    -- fewer are fewer than more
    pub looser : {level fewer : ℕ} (more : ℕ) → fewer ≤ more → Expressed p level tokens tree fewer → Expressed p level tokens tree more
    looser more less x = record { by = x.by; spells = x.spells; gives = x.gives; open_few = let few = x.open_few in omega arith }

    module _ {below : ℕ} where
      -- ---- levels

      pub same_level : {low high : ℕ} → low ≡ high → Expressed p low tokens tree below → Expressed p high tokens tree below
      same_level same x = subst (λ (level : ℕ). Expressed p level tokens tree below) same x

      one_up : {level : ℕ} → Expressed p level tokens tree below → Expressed p (suc level) tokens tree below
      one_up x = record { by = lift x.by; spells = x.spells; gives = x.gives; open_few = x.open_few }

      up_or_same : (low high : ℕ) (less : Bool) → nat_le low high ≡ less → low ≤ suc high → (low ≤ high → Expressed p high tokens tree below)
          → Expressed p low tokens tree below → Expressed p (suc high) tokens tree below
      up_or_same low high true is most up x = one_up (up (grind (arith, nat_tests)))
      up_or_same low high false is most up x = same_level (grind (arith, nat_tests)) x

      -- an expression of a level is one of each looser level
      pub raised : (low high : ℕ) → low ≤ high → Expressed p low tokens tree below → Expressed p high tokens tree below
      raised low zero most x = same_level (omega arith) x
      raised low (suc high) most x = up_or_same low high (nat_le low high) refl most (λ less. raised low high less x) x

      -- ---- operators and parentheses

      pub postfix_expressed : (op : Postfix) → Expressed p (suc (postfix_under op)) tokens tree below
          → Expressed p (suc (postfix_under op)) (tokens ++ postfix_token op ∷ []) (postfix_node op tree) below
      postfix_expressed op x = record {
        by = followed op x.by;
        spells = λ i. x.spells i ++ postfix_token op ∷ [];
        gives = λ i. postfix_node op (x.gives i);
        open_few = x.open_few;
      }

      pub prefix_expressed : (op : Prefix) → Expressed p (suc (prefix_under op)) tokens tree below
          → Expressed p (suc (prefix_under op)) (prefix_token op ∷ tokens) (prefix_node op tree) below
      prefix_expressed op x = record {
        by = signed op x.by;
        spells = λ i. prefix_token op ∷ x.spells i;
        gives = λ i. prefix_node op (x.gives i);
        open_few = x.open_few;
      }

      -- a whole expression in parentheses stands at every level
      pub parentheses_expressed : Expressed p 10 tokens tree below → Expressed p 0 (in_parentheses tokens) tree (below + 1)
      parentheses_expressed x = record {
        by = parentheses x.by;
        spells = λ i. in_parentheses (x.spells i);
        gives = x.gives;
        open_few = let few = x.open_few in omega arith;
      }

  pub infix_expressed : {left_tokens right_tokens : List Token} {left right : Node} {m n : ℕ} (op : Infix)
      → Expressed p (suc (infix_under op)) left_tokens left m → Expressed p (infix_under op) right_tokens right n
      → Expressed p (suc (infix_under op)) (left_tokens ++ infix_token op ∷ right_tokens) (infix_node op left right) (max m n)
  infix_expressed op x y = record {
    by = joined op x.by y.by;
    spells = λ i. x.spells i ++ infix_token op ∷ y.spells i;
    gives = λ i. infix_node op (x.gives i) (y.gives i);
    open_few = let few_x = x.open_few in let few_y = y.open_few in omega arith;
  }
