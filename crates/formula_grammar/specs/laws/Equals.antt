-- `==` of marks and tokens is equality of their values.
use Rattle.std.proofs.Common.{◌≡◌, true, false, refl, ap, subst}
use Rattle.std.specs.Bool.{Decides}
use Rattle.std.specs.Cmp.{signed_Decides, booleans_Decides}
use Rattle.std.specs.Cmp.Lexicographic.{bytes_decides}
use Rattle.std.proofs.lemmas.Bool.Decides.{Decides-like, Decides-and}
use Rattle.base_values.specs.laws.Decided.{option_equals}
use Rattle.base_tables.specs.laws.ErrorEquals.{error_equals}
use Rattle.base_decimal.specs.laws.DecimalEquals.{decimal_equals}
use Rattle.formula_grammar.specs.declared.token.CellMark.{CellMark}
use Rattle.formula_grammar.specs.contracts.token.CellMarkPartialEq.TheImpl as cell_mark
use Rattle.formula_grammar.specs.declared.token.Token.{Token}
use Rattle.formula_grammar.specs.declared.token.Token.TheVariants as t
use Rattle.formula_grammar.specs.contracts.token.TokenPartialEq.TheImpl as token

pub cell_mark_equals : (a b : CellMark) → Decides (cell_mark.ghosts.eq a b) (a ≡ b)
cell_mark_equals a b =
    Decides-like _ (λ p i. record { absolute_row = p.0 i; row = p.1.0 i; absolute_column = p.1.1.0 i; column = p.1.1.1 i })
    (λ e. (ap (λ x. x.absolute_row) e, (ap (λ x. x.row) e, (ap (λ x. x.absolute_column) e, ap (λ x. x.column) e))))
    (Decides-and _ _ (booleans_Decides _ _) (Decides-and _ _ (signed_Decides _ _) (Decides-and _ _ (booleans_Decides _ _) (signed_Decides _ _))))

no : {A : Type 0} → false ≡ true → A
no e = absurd cc

-- equal tokens are one
token_is : (a b : Token) → token.ghosts.eq a b ≡ true → a ≡ b
token_is (t.Number x) (t.Number y) e = ap t.Number ((decimal_equals x y).0 e)
token_is (t.Text x) (t.Text y) e = ap t.Text ((bytes_decides x y).0 e)
token_is (t.Error x) (t.Error y) e = ap t.Error ((error_equals x y).0 e)
token_is (t.Word x) (t.Word y) e = ap t.Word ((bytes_decides x y).0 e)
token_is (t.Reference s a) (t.Reference u b) e =
    let q = (Decides-and _ _ (option_equals bytes_decides s u) (cell_mark_equals a b)).0 e in λ i. t.Reference (q.0 i) (q.1 i)
token_is (t.Range s a b) (t.Range u c d) e =
    let q = (Decides-and _ _ (option_equals bytes_decides s u) (Decides-and _ _ (cell_mark_equals a c) (cell_mark_equals b d))).0 e in
    λ i. t.Range (q.0 i) (q.1.0 i) (q.1.1 i)
token_is t.Equal t.Equal e = refl
token_is t.NotEqual t.NotEqual e = refl
token_is t.Less t.Less e = refl
token_is t.LessOrEqual t.LessOrEqual e = refl
token_is t.Greater t.Greater e = refl
token_is t.GreaterOrEqual t.GreaterOrEqual e = refl
token_is t.Ampersand t.Ampersand e = refl
token_is t.Plus t.Plus e = refl
token_is t.Minus t.Minus e = refl
token_is t.Times t.Times e = refl
token_is t.Divide t.Divide e = refl
token_is t.Power t.Power e = refl
token_is t.Percent t.Percent e = refl
token_is t.At t.At e = refl
token_is t.Colon t.Colon e = refl
token_is t.Hash t.Hash e = refl
token_is t.OpenParenthesis t.OpenParenthesis e = refl
token_is t.CloseParenthesis t.CloseParenthesis e = refl
token_is t.OpenBrace t.OpenBrace e = refl
token_is t.CloseBrace t.CloseBrace e = refl
token_is t.OpenBracket t.OpenBracket e = refl
token_is t.CloseBracket t.CloseBracket e = refl
token_is t.Comma t.Comma e = refl
token_is t.Semicolon t.Semicolon e = refl
token_is _ _ e = no e

-- a token equals itself
token_same : (a : Token) → token.ghosts.eq a a ≡ true
token_same (t.Number x) = (decimal_equals x x).1 refl
token_same (t.Text x) = (bytes_decides x x).1 refl
token_same (t.Error x) = (error_equals x x).1 refl
token_same (t.Word x) = (bytes_decides x x).1 refl
token_same (t.Reference s a) = (Decides-and _ _ (option_equals bytes_decides s s) (cell_mark_equals a a)).1 (refl, refl)
token_same (t.Range s a b) = (Decides-and _ _ (option_equals bytes_decides s s) (Decides-and _ _ (cell_mark_equals a a) (cell_mark_equals b b))).1 (refl, (refl, refl))
token_same _ = refl

pub token_equals : (a b : Token) → Decides (token.ghosts.eq a b) (a ≡ b)
token_equals a b = (token_is a b, λ e. subst (λ x. token.ghosts.eq a x ≡ true) e (token_same a))
