-- What is shown of each tree: its tokens are an expression of the level of its kind, and of a lambda also a lambda.
use Rattle.std.specs.Prelude.{◌≡◌, ℕ, ◌<◌, true, false, not, List, []}
use Rattle.std.proofs.Common.{ap}
use Rattle.base_tables.specs.laws.Tables.{both_parts}
use Rattle.formula_tree.specs.declared.Node.{Node}
use Rattle.formula_tree.specs.declared.Node.TheVariants as n
use Rattle.formula_tree.specs.Depth.{depth_of}
use Rattle.formula_tree.specs.declared.Infix.TheVariants as op
use Rattle.formula_print.specs.declared.Kind.{Kind}
use Rattle.formula_print.specs.declared.Kind.TheVariants as k
use Rattle.formula_print.specs.Kinds.{is_lambda}
use Rattle.formula_grammar.specs.declared.Profile.{Profile}
use Rattle.formula_grammar.specs.declared.Token.{Token}
use Rattle.formula_grammar.specs.Grammar.{Lambda, lambda_tokens, lambda_tree, lambda_open}
use Rattle.formula_grammar.specs.Normal.{Sort, empty, sum, lambda, other, Seen, is_empty, operand, normal_seen}
use Rattle.formula_round.specs.Tokens.{Tokened, tokened}
use Rattle.formula_round.proofs.Expressions.{Expressed}
use Rattle.formula_round.proofs.Operands.{stands}

-- what the tree around asks of a tree that is not empty, by its kind
abbrev pub sort_of : Kind → Sort
sort_of (k.Infix (op.Sum kind)) = sum
sort_of k.Lambda = lambda
sort_of _ = other

-- the tokens are a lambda or a call of one, with this tree
pub record Applicable (p : Profile) (tokens : List Token) (tree : Node) (below : ℕ) : Type 0 where
  pub by : Lambda p
  pub spells : lambda_tokens by ≡ tokens
  pub gives : lambda_tree by ≡ tree
  pub open_few : lambda_open by < below

module _ (p : Profile) (kind : Kind) (tokens : List Token) (sort : Sort) (tree : Node) (below : ℕ) where
  pub record Whole : Type 0 where
    pub sorted : sort ≡ sort_of kind
    pub expressed : Expressed p (stands kind) tokens tree below
    pub applicable : is_lambda kind ≡ true → Applicable p tokens tree below

  -- a tree is an empty argument, or its tokens are an expression
  pub data Outcome : Type 0 where
    blank : sort ≡ empty → tokens ≡ [] → tree ≡ n.EmptyArgument → Outcome
    given : Whole → Outcome

  -- a tree that is not empty is an expression
  not_blank : not (is_empty sort) ≡ true → Outcome → Whole
  not_blank some (blank is spells gives) = absurd (let none : not (is_empty sort) ≡ false = ap (λ (s : Sort). not (is_empty s)) is in cc)
  not_blank some (given whole) = whole

-- a normal tree has an outcome
abbrev pub Claim : Profile → Tokened → Seen → ℕ → Node → Type 0
Claim p a seen depth tree = seen.is_fine ≡ true → Outcome p a.kind a.tokens seen.sort tree depth

module _ (p : Profile) where
  abbrev pub seen_of : Node → Seen
  seen_of = normal_seen p.place p.language

  abbrev pub Holds : Node → Type 0
  Holds tree = Claim p (tokened p tree) (seen_of tree) (depth_of tree) tree

  abbrev pub IsWhole : Node → Type 0
  IsWhole tree = Whole p (tokened p tree).kind (tokened p tree).tokens (seen_of tree).sort tree (depth_of tree)

  -- an operand of a normal node is an expression
  pub operand_whole : (tree : Node) → Holds tree → operand (seen_of tree) ≡ true → IsWhole tree
  operand_whole tree holds fine =
      let parts = both_parts (seen_of tree).is_fine (not (is_empty (seen_of tree).sort)) fine in
      not_blank p (tokened p tree).kind (tokened p tree).tokens (seen_of tree).sort tree (depth_of tree) parts.1 (holds parts.0)
