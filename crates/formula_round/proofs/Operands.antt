-- Operands, with or without parentheses, are expressions of the level that their place asks for.
use Rattle.std.specs.Prelude.{◌≡◌, ℕ, suc, ◌+◌, ◌-◌, ◌≤◌, max, Bool, true, false, not, ◌||◌, if◌then◌else◌, nat_le, [], ◌∷◌, ◌++◌}
use Rattle.std.proofs.Common.{refl, arith}
use Rattle.std.proofs.lemmas.Bool.Decides.{nat_tests}
use Rattle.formula_tree.specs.declared.Node.{Node}
use Rattle.formula_tree.specs.declared.Infix.{Infix}
use Rattle.formula_tree.specs.declared.Infix.TheVariants as op
use Rattle.formula_tree.specs.declared.Postfix.{Postfix}
use Rattle.formula_tree.specs.declared.Postfix.TheVariants as postfix
use Rattle.formula_tree.specs.declared.Prefix.{Prefix}
use Rattle.formula_tree.specs.declared.Prefix.TheVariants as prefix
use Rattle.formula_tree.specs.Levels.{infix_node, prefix_node, postfix_node}
use Rattle.formula_print.specs.declared.Kind.{Kind}
use Rattle.formula_print.specs.declared.Kind.TheVariants as k
use Rattle.formula_print.specs.declared.Need.{Need}
use Rattle.formula_print.specs.Kinds.{level_of, fits}
use Rattle.formula_grammar.specs.declared.Profile.{Profile}
use Rattle.formula_grammar.specs.Operators.{infix_under, prefix_under, postfix_under, infix_token, prefix_token, postfix_token}
use Rattle.formula_round.specs.Tokens.{Tokened, in_parentheses, operand}
use Rattle.formula_round.proofs.Expressions.{Expressed, looser, raised, parentheses_expressed, infix_expressed, prefix_expressed, postfix_expressed}

-- the level of the grammar at which trees of a kind stand
abbrev pub stands : Kind → ℕ
stands kind = 11 - level_of kind

level_positive : (kind : Kind) → nat_le 1 (level_of kind) ≡ true
level_positive (k.Infix op.Power) = refl
level_positive (k.Prefix prefix.Minus) = refl
level_positive (k.Postfix postfix.Percent) = refl
level_positive _ = refl

stands_within : (kind : Kind) → stands kind ≤ 10
stands_within kind = let positive = level_positive kind in grind (arith, nat_tests)

-- what stands there without parentheses is an expression of the level
abbrev pub fits_within : Need → ℕ → Kind → Bool
fits_within need level kind = not (fits need kind) || nat_le (stands kind) level

within : (fit : Bool) (low high : ℕ) → not fit || nat_le low high ≡ true → fit ≡ true → low ≤ high
within fit low high test is = grind (arith, nat_tests)

-- the tokens of a tree are an expression of the level of its kind
abbrev pub Own : Profile → Tokened → Node → ℕ → Type 0
Own p a tree below = Expressed p (stands a.kind) a.tokens tree below

module _ {p : Profile} where
  module _ {tree : Node} {below : ℕ} where
    -- so they are a whole expression
    pub whole : (a : Tokened) → Own p a tree below → Expressed p 10 a.tokens tree below
    whole a x = raised (stands a.kind) 10 (stands_within a.kind) x

    with_or_without : (level : ℕ) (a : Tokened) (fit : Bool) → (fit ≡ true → stands a.kind ≤ level) → Own p a tree below
        → Expressed p level (if fit then a.tokens else in_parentheses a.tokens) tree (below + 1)
    with_or_without level a true low x = raised _ level (low refl) (looser _ (omega arith) x)
    with_or_without level a false low x = raised 0 level (omega arith) (parentheses_expressed (whole a x))

    operand_expressed : (need : Need) (level : ℕ) (a : Tokened) → fits_within need level a.kind ≡ true → Own p a tree below
        → Expressed p level (operand need a) tree (below + 1)
    operand_expressed need level a test x = with_or_without level a (fits need a.kind) (within (fits need a.kind) (stands a.kind) level test) x

    pub prefix_operand : (op : Prefix) (need : Need) (a : Tokened) → fits_within need (suc (prefix_under op)) a.kind ≡ true → Own p a tree below
        → Expressed p (suc (prefix_under op)) (prefix_token op ∷ operand need a) (prefix_node op tree) (below + 1)
    prefix_operand op need a test x = prefix_expressed op (operand_expressed need (suc (prefix_under op)) a test x)

    pub postfix_operand : (op : Postfix) (need : Need) (a : Tokened) → fits_within need (suc (postfix_under op)) a.kind ≡ true → Own p a tree below
        → Expressed p (suc (postfix_under op)) (operand need a ++ postfix_token op ∷ []) (postfix_node op tree) (below + 1)
    postfix_operand op need a test x = postfix_expressed op (operand_expressed need (suc (postfix_under op)) a test x)

  pub infix_operands : {left right : Node} {m n : ℕ} (op : Infix) (left_need right_need : Need) (a b : Tokened)
      → fits_within left_need (suc (infix_under op)) a.kind ≡ true → fits_within right_need (infix_under op) b.kind ≡ true → Own p a left m → Own p b right n
      → Expressed p (suc (infix_under op)) (operand left_need a ++ infix_token op ∷ operand right_need b) (infix_node op left right) (max m n + 1)
  infix_operands {m = m} {n = n} op left_need right_need a b test_a test_b x y =
      let first = operand_expressed left_need (suc (infix_under op)) a test_a x in
      let second = operand_expressed right_need (infix_under op) b test_b y in
      looser (max m n + 1) (omega arith) (infix_expressed op first second)
