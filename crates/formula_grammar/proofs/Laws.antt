-- The reading function and the grammar are one.
use Rattle.std.proofs.Common.{◌≡◌, true, false, ◌≤◌, List, [], ◌∷◌, ◌++◌, Option, Some, None, Result, Ok, Err, sym, ap, ◌∙◌, append-nil, arith}
use Rattle.std.specs.Prelude.{IfOk, IfSome}
use Rattle.std.proofs.lemmas.Bool.{not-true}
use Rattle.formula_tree.specs.declared.node.Node.{Node}
use Rattle.formula_tree.specs.Depth.{depth_of}
use Rattle.formula_grammar.specs.declared.profile.Profile.{Profile}
use Rattle.formula_grammar.specs.declared.token.Token.{Token}
use Rattle.formula_grammar.specs.Grammar.{expression_tokens, expression_tree, Derives}
use Rattle.formula_grammar.specs.laws.Reading.{Outcome, expression, whole, if_last, tree_of}
use Rattle.formula_grammar.proofs.Complete.{completes, expression_reads}
use Rattle.formula_grammar.proofs.Sound.{IsExpression, whole_sound}
use Rattle.formula_grammar.proofs.Steps.{Brings}
use Rattle.formula_grammar.proofs.Trees.{expression_follows, expression_formula, expression_placed}
use Rattle.formula_grammar.specs.Numbers.{tokens_follow}
use Rattle.formula_tree.specs.declared.numbers.NumberRule.{NumberRule}
use Rattle.formula_tree.specs.Numbers.{numbers_follow}
use Rattle.formula_tree.specs.ParseError.{is_parse_error}
use Rattle.formula_tree.specs.Placed.{is_placed}

-- what the grammar derives is read as that tree, and so as no other
pub derived_is_read : (p : Profile) (ts : List Token) (tree : Node) → Derives p ts tree → tree_of p ts ≡ Some tree
unfolding tree_of whole
derived_is_read p ts tree d =
    let shallow : depth_of (expression_tree d.by) ≤ 64 = omega (arith, ap depth_of d.gives, d.shallow) in
    let read : expression p (whole p 127) 64 10 (expression_tokens d.by ++ []) ≡ Some (expression_tree d.by, []) =
    completes 10 d.by (expression_reads d.by) 127 64 [] (record { within = d.open_few; nested = omega (arith, shallow, d.open_few); shallow = shallow }) tt in
    ap (λ (l : List Token). if_last (expression p (whole p 127) 64 10 l)) (sym d.spells ∙ sym (append-nil (expression_tokens d.by))) ∙ ap if_last read ∙ ap Some d.gives

-- what is read is derived
pub read_is_derived : (p : Profile) (ts : List Token) (tree : Node) → tree_of p ts ≡ Some tree → Derives p ts tree
unfolding tree_of
read_is_derived p ts tree = go (whole p 128 64 ts) (whole_sound p 128 64 ts)
  where
    go : (o : Outcome Node) → Brings (IsExpression p 10 64 ts) o → if_last o ≡ Some tree → Derives p ts tree
    go None d e = absurd cc
    go (Some (x, y ∷ rest)) d e = absurd cc
    go (Some (x, [])) d e =
        let f = d.read in
        let is : x ≡ tree = cc in
        record { by = f.by; spells = rw f.parts (sym (append-nil (expression_tokens f.by))); gives = f.gives ∙ is; shallow = rw (← is) f.shallow; open_few = f.within }

-- tokens have one tree
pub one_tree : (p : Profile) (ts : List Token) (a b : Node) → Derives p ts a → Derives p ts b → a ≡ b
one_tree p ts a b x y = let e = sym (derived_is_read p ts a x) ∙ derived_is_read p ts b y in cc

pub only_this : {E : Type 0} (p : Profile) (ts : List Token) (r : Result (Option Node) E) → IfOk r (λ o. o ≡ tree_of p ts) → IfOk r (λ o. (tree : Node) → Derives p ts tree → o ≡ Some tree)
only_this p ts (Ok o) e = λ tree d. e ∙ derived_is_read p ts tree d
only_this p ts (Err x) e = tt

-- what holds of each tree that the tokens derive holds of the one that was read
pub found_has : {E : Type 0} (p : Profile) (ts : List Token) (r : Result (Option Node) E) → IfOk r (λ o. o ≡ tree_of p ts)
    → (P : Node → Type 0) → ((tree : Node) → Derives p ts tree → P tree) → IfOk r (λ o. IfSome o P)
found_has p ts (Ok (Some tree)) e P has = has tree (read_is_derived p ts tree (sym e))
found_has p ts (Ok None) e P has = tt
found_has p ts (Err x) e P has = tt

-- its corners lie as they should
pub derived_placed : (p : Profile) (ts : List Token) (tree : Node) → Derives p ts tree → is_placed p.place tree ≡ true
derived_placed p ts tree d = rw (← d.gives) (expression_placed d.by)

-- it is no text outside of the grammar
pub derived_formula : (p : Profile) (ts : List Token) (tree : Node) → Derives p ts tree → is_parse_error tree ≡ false
derived_formula p ts tree d = rw (← d.gives) (not-true (is_parse_error (expression_tree d.by)) (expression_formula d.by))

-- its numbers are as those of the tokens
pub derived_follows : (r : NumberRule) (p : Profile) (ts : List Token) → tokens_follow r ts ≡ true → (tree : Node) → Derives p ts tree → numbers_follow r tree ≡ true
derived_follows r p ts follow tree d = rw (← d.gives) (expression_follows r d.by (rw d.spells follow))
