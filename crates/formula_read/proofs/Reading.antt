-- The tree of a text is the one that its one list of tokens derives.
use Rattle.std.proofs.Common.{◌≡◌, ◌≤◌, ℕ, true, false, List, Option, Some, None, Result, Ok, Err, refl, ap, ◌∙◌, subst, sym, arith}
use Rattle.std.specs.Prelude.{IfOk, IfSome, unwrap_or}
use Rattle.std.specs.Option.{option_and_then}
use Rattle.std.specs.Str.{chars}
use Rattle.formula_tree.specs.declared.Node.{Node}
use Rattle.formula_tree.specs.declared.Node.TheVariants.{ParseError}
use Rattle.formula_tree.specs.Depth.{depth_of}
use Rattle.formula_tree.specs.laws.DepthEquations.{depth_parse_error}
use Rattle.formula_tree.specs.laws.ParseErrorEquations.{parse_error_parse_error}
use Rattle.formula_tree.specs.ParseError.{is_parse_error}
use Rattle.formula_grammar.specs.declared.Profile.{Profile}
use Rattle.formula_grammar.specs.declared.Token.{Token}
use Rattle.formula_grammar.specs.Grammar.{Derives}
use Rattle.formula_read.specs.Lexicon.{IsTokens}
use Rattle.formula_grammar.specs.laws.Reading.{tree_of}
use Rattle.formula_read.specs.laws.Lex.{tokens_of}
use Rattle.formula_read.specs.Formula.{IsFormula, IsRead, found_tree, formula_of}

-- what its tokens derive is its tree
pub found_formula : {E : Type 0} (p : Profile) (text : List ℕ) (tokens : List Token) (r : Result (Option Node) E) → IsTokens p.locale p.language (chars text) tokens
    → IfOk r (λ o. IfSome o (λ tree. Derives p tokens tree)) → IfOk r (λ o. IfSome o (λ tree. IsFormula p text tree))
found_formula p text tokens (Ok (Some tree)) spelled derives = record { tokens = tokens; spelled = spelled; derives = derives }
found_formula p text tokens (Ok None) spelled derives = tt
found_formula p text tokens (Err e) spelled derives = tt

same_tokens : (a b : List Token) → ◌≡◌ {A = Option (List Token)} (Some a) (Some b) → a ≡ b
same_tokens a b e = cc

-- and it has no other tree
pub only_formula : {E : Type 0} (p : Profile) (text : List ℕ) (tokens : List Token) (r : Result (Option Node) E)
    → ((others : List Token) → IsTokens p.locale p.language (chars text) others → ◌≡◌ {A = Option (List Token)} (Some tokens) (Some others))
    → IfOk r (λ o. (tree : Node) → Derives p tokens tree → o ≡ Some tree) → IfOk r (λ o. (tree : Node) → IsFormula p text tree → o ≡ Some tree)
only_formula p text tokens (Ok o) one only = λ tree formula.
    only tree (subst (λ (ts : List Token). Derives p ts tree) (sym (same_tokens tokens formula.tokens (one formula.tokens formula.spelled))) formula.derives)
only_formula p text tokens (Err e) one only = tt

nothing : (tokens : List Token) → ◌≡◌ {A = Option (List Token)} None (Some tokens) → (tree : Node) → ◌≡◌ {A = Option Node} None (Some tree)
nothing tokens e tree = absurd cc

-- a text without tokens has no tree
pub no_formula : (p : Profile) (text : List ℕ) → ((others : List Token) → IsTokens p.locale p.language (chars text) others → ◌≡◌ {A = Option (List Token)} None (Some others))
    → (tree : Node) → IsFormula p text tree → ◌≡◌ {A = Option Node} None (Some tree)
no_formula p text none tree formula = nothing formula.tokens (none formula.tokens formula.spelled) tree

-- a text has one list of tokens, and so one tree
pub one_tree : (p : Profile) (text : List ℕ) (a b : Node)
    → ((x y : List Token) → IsTokens p.locale p.language (chars text) x → IsTokens p.locale p.language (chars text) y → x ≡ y)
    → ((tokens : List Token) → Derives p tokens a → Derives p tokens b → a ≡ b) → IsFormula p text a → IsFormula p text b → a ≡ b
one_tree p text a b same one x y = one x.tokens x.derives (subst (λ (ts : List Token). Derives p ts b) (same y.tokens x.tokens y.spelled x.spelled) y.derives)

-- ---- a text that is no formula

-- what holds of its node holds of the answer
pub error_has : {E : Type 0} (text : List ℕ) (r : Result Node E) (P : Node → Type 0) → P (ParseError text) → IfOk r (λ tree. tree ≡ ParseError text) → IfOk r P
error_has text (Ok tree) P has e = subst P (sym e) has
error_has text (Err e) P has is = tt

-- the node is told from a formula's tree
pub error_told : (text : List ℕ) (A : Type 0) → is_parse_error (ParseError text) ≡ false → A
error_told text A e = let is = parse_error_parse_error text in absurd cc

pub error_shallow : (text : List ℕ) → depth_of (ParseError text) ≤ 64
error_shallow text = omega (arith, depth_parse_error text)

-- there is one answer
pub same_tree : (o : Option Node) (a b : Node) → o ≡ Some a → o ≡ Some b → a ≡ b
same_tree o a b e f = cc

pub no_tree : (o : Option Node) (b : Node) (A : Type 0) → o ≡ None → o ≡ Some b → A
no_tree o b A e f = absurd cc

-- ---- what a text is read as

trees_same : (a b : Node) → ◌≡◌ {A = Option Node} (Some a) (Some b) → a ≡ b
trees_same a b e = cc

-- given that both definitions are exact, a text is read as the grammar says
pub formula_is_read : (p : Profile) (text : List ℕ)
    → ((ts : List Token) → tokens_of p.locale p.language (chars text) ≡ Some ts → IsTokens p.locale p.language (chars text) ts)
    → ((ts : List Token) → IsTokens p.locale p.language (chars text) ts → tokens_of p.locale p.language (chars text) ≡ Some ts)
    → ((ts : List Token) (tree : Node) → tree_of p ts ≡ Some tree → Derives p ts tree)
    → ((ts : List Token) (tree : Node) → Derives p ts tree → tree_of p ts ≡ Some tree)
    → ((tree : Node) → IsFormula p text tree → is_parse_error tree ≡ false) → IsRead p text (formula_of p text)
unfolding formula_of
formula_is_read p text lexed spelled read derived formula = by (tokens_of p.locale p.language (chars text)) refl
  where
    at : (ts : List Token) → tokens_of p.locale p.language (chars text) ≡ Some ts → (o : Option Node) → tree_of p ts ≡ o → (other : Node) → IsFormula p text other → o ≡ Some other
    at ts e o f other g =
        sym f ∙ ap (tree_of p) (same_tokens ts g.tokens (sym e ∙ spelled g.tokens g.spelled)) ∙ derived g.tokens other g.derives

    outside : (tree : Node) → IsFormula p text tree → is_parse_error tree ≡ true → tree ≡ ParseError text
    outside tree g is = let no = formula tree g in absurd cc

    parsed : (ts : List Token) → tokens_of p.locale p.language (chars text) ≡ Some ts → (o : Option Node) → tree_of p ts ≡ o → IsRead p text (unwrap_or o (ParseError text))
    parsed ts e None f = record { found = error_told text (IsFormula p text (ParseError text)); only = λ other g. absurd (nowhere other (at ts e None f other g)); outside = λ is. refl }
      where
        nowhere : (other : Node) → ◌≡◌ {A = Option Node} None (Some other) → ⊥
        nowhere other e = cc
    parsed ts e (Some tree) f =
        let is : IsFormula p text tree = record { tokens = ts; spelled = lexed ts e; derives = read ts tree f } in
        record { found = λ no. is; only = λ other g. trees_same tree other (at ts e (Some tree) f other g); outside = outside tree is }

    by : (o : Option (List Token)) → tokens_of p.locale p.language (chars text) ≡ o → IsRead p text (unwrap_or (option_and_then (tree_of p) o) (ParseError text))
    by None e = record { found = error_told text (IsFormula p text (ParseError text)); only = λ other g. absurd (nowhere g.tokens (sym e ∙ spelled g.tokens g.spelled)); outside = λ is. refl }
      where
        nowhere : (ts : List Token) → ◌≡◌ {A = Option (List Token)} None (Some ts) → ⊥
        nowhere ts e = cc
    by (Some ts) e = parsed ts e (tree_of p ts) refl

-- ---- what the definitions compute

-- the definition answers the tree of the tokens, as the reader does
pub same_answer : {E : Type 0} (p : Profile) (ts : List Token) (r : Result (Option Node) E)
    → ((tree : Node) → tree_of p ts ≡ Some tree → Derives p ts tree) → ((tree : Node) → Derives p ts tree → tree_of p ts ≡ Some tree)
    → IfOk r (λ o. IfSome o (Derives p ts)) → IfOk r (λ o. (tree : Node) → Derives p ts tree → o ≡ Some tree) → IfOk r (λ o. o ≡ tree_of p ts)
same_answer p ts (Ok (Some tree)) read derived found only = sym (derived tree found)
same_answer p ts (Ok None) read derived found only = nowhere (tree_of p ts) refl
  where
    nowhere : (o : Option Node) → tree_of p ts ≡ o → ◌≡◌ {A = Option Node} None o
    nowhere None e = refl
    nowhere (Some tree) e = only tree (read tree e)
same_answer p ts (Err e) read derived found only = tt

-- a text with these tokens has the tree of these tokens
pub same_found : {E : Type 0} (p : Profile) (text : List ℕ) (ts : List Token) (r : Result (Option Node) E) → tokens_of p.locale p.language (chars text) ≡ Some ts
    → IfOk r (λ o. o ≡ tree_of p ts) → IfOk r (λ o. o ≡ found_tree p text)
same_found p text ts (Ok o) spelled e = e ∙ ap (option_and_then (tree_of p)) (sym spelled)
same_found p text ts (Err e) spelled is = tt

-- a text that is no tokens has no tree
pub nothing_found : (p : Profile) (text : List ℕ) → ((ts : List Token) → tokens_of p.locale p.language (chars text) ≡ Some ts → IsTokens p.locale p.language (chars text) ts)
    → ((ts : List Token) → IsTokens p.locale p.language (chars text) ts → ◌≡◌ {A = Option (List Token)} None (Some ts)) → ◌≡◌ {A = Option Node} None (found_tree p text)
nothing_found p text read only = by (tokens_of p.locale p.language (chars text)) refl
  where
    by : (o : Option (List Token)) → tokens_of p.locale p.language (chars text) ≡ o → ◌≡◌ {A = Option Node} None (option_and_then (tree_of p) o)
    by None e = refl
    by (Some ts) e = let none = only ts (read ts e) in absurd cc
