-- What may stand first in a tree, and what may stand after the tokens of a rule without going on with it.
use Rattle.std.proofs.Common.{◌≡◌, ℕ, suc, ◌<◌, ◌≤◌, true, false, List, [], ◌∷◌, Option, Some, None, refl, ap, ◌∙◌, arith, ◌++◌, sym, subst, append_assoc}
use Rattle.std.proofs.lemmas.Bool.{eq-eqb}
use Rattle.std.proofs.lemmas.Bool.Decides.{nat_tests}
use Rattle.base_tables.specs.declared.Locale.{Locale}
use Rattle.formula_tree.specs.declared.node.Node.{Node}
use Rattle.formula_grammar.specs.declared.operator.Operator.{Operator}
use Rattle.formula_grammar.specs.declared.profile.Profile.{Profile}
use Rattle.formula_grammar.specs.declared.token.Token.{Token}
use Rattle.formula_grammar.specs.Operators.{infix_token, postfix_token, prefix_under, prefix_token}
use Rattle.formula_grammar.specs.Words.{separator_token, row_token, worded}
use Rattle.formula_grammar.specs.laws.Reading.{Parser, operator_of, operator_under, operator_at, opening, closing, is_separator, separator, is_empty_here, after_item, named, parameter, sign_at, signed}
use Rattle.formula_tree.specs.declared.prefix.Prefix.{Prefix}
use Rattle.formula_grammar.specs.Grammar.{Expression, Lambda, expression_tokens, lambda_tokens, arguments_tokens}
use Rattle.formula_grammar.specs.declared.after_item.AfterItem.TheVariants as after
use Rattle.formula_grammar.specs.declared.operator.Operator.TheVariants as operator
use Rattle.formula_grammar.specs.declared.token.Token.TheVariants as t
use Rattle.formula_grammar.specs.Grammar as G

abbrev pub operator_token : Operator → Token
operator_token (operator.Infix op) = infix_token op
operator_token (operator.Postfix op) = postfix_token op

-- the level at which a token goes on with what stands before it, and 11 where it does not
abbrev pub level_of : Option Operator → ℕ
level_of (Some op) = suc (operator_under op)
level_of None = 11

abbrev pub binds : Token → ℕ
binds t.OpenParenthesis = 0
binds x = level_of (operator_of x)

-- what comes does not go on with a tree of this level
abbrev pub EndsAt : ℕ → List Token → Type 0
EndsAt level [] = Unit {0}
EndsAt level (x ∷ ts) = level < binds x

pub ends_sooner : (k l : ℕ) (ts : List Token) → k ≤ l → EndsAt l ts → EndsAt k ts
ends_sooner k l ts h e = grind arith

pub ends_operator : (under : ℕ) (ts : List Token) → EndsAt (suc under) ts → operator_at under ts ≡ None
ends_operator under ts h = grind (arith, nat_tests)

pub ends_lambda : (ts : List Token) → EndsAt 0 ts → opening ts ≡ None
ends_lambda ts h = grind arith

pub ends_word : (p : Profile) (inner : ℕ → Parser Node) (room : ℕ) (word : List ℕ) (ts : List Token) → EndsAt 0 ts → named p inner room word ts ≡ Some (worded p.language word, ts)
ends_word p inner room word ts h = grind arith

pub ends_at_separator : (locale : Locale) (ts : List Token) → is_empty_here locale ts ≡ true → EndsAt 10 ts
ends_at_separator locale ts h = grind arith

-- ---- the tokens of operators

pub record Known (op : Operator) : Type 0 where
  pub is : operator_of (operator_token op) ≡ Some op
  pub binds_so : binds (operator_token op) ≡ suc (operator_under op)
  pub parts_none : (locale : Locale) → is_separator locale (operator_token op) ≡ false

pub known : (op : Operator) → Known op
known op = record { is = grind arith; binds_so = grind arith; parts_none = λ locale. grind arith }

pub operator_reads : (op : Operator) (ts : List Token) → operator_at (operator_under op) (operator_token op ∷ ts) ≡ Some (op, ts)
operator_reads op ts = rw ((known op).is, eq-eqb (operator_under op) (operator_under op) refl)

-- an operator does not go on with what is tighter
pub operator_ends : (op : Operator) (ts : List Token) → EndsAt (operator_under op) (operator_token op ∷ ts)
operator_ends op ts = omega (arith, (known op).binds_so)

-- ---- the separators of a locale

pub record Separates (locale : Locale) : Type 0 where
  pub parts : is_separator locale (separator_token locale) ≡ true
  pub reads : (ts : List Token) → separator locale (separator_token locale ∷ ts) ≡ Some (true, ts)
  pub empty : (ts : List Token) → is_empty_here locale (separator_token locale ∷ ts) ≡ true
  pub no_end : (ts : List Token) → closing (separator_token locale ∷ ts) ≡ None
  pub column : (ts : List Token) → after_item locale (separator_token locale ∷ ts) ≡ Some (after.Column, ts)
  pub row : (ts : List Token) → after_item locale (row_token locale ∷ ts) ≡ Some (after.Row, ts)

pub separates : (locale : Locale) → Separates locale
separates locale = record { parts = grind arith; reads = λ ts. grind arith; empty = λ ts. grind arith; no_end = λ ts. grind arith; column = λ ts. grind arith; row = λ ts. grind arith }

-- the level at which a token may stand first, and 11 where it may not
abbrev pub opens : Token → ℕ
opens (t.Number value) = 0
opens (t.Text value) = 0
opens (t.Error x) = 0
opens (t.Word word) = 0
opens (t.Reference sheet mark) = 0
opens (t.Range sheet first second) = 0
opens t.OpenParenthesis = 0
opens t.OpenBrace = 0
opens t.At = 3
opens t.Plus = 5
opens t.Minus = 5
opens _ = 11

abbrev pub StartsAt : ℕ → List Token → Type 0
StartsAt level [] = ⊥
StartsAt level (x ∷ ts) = opens x ≤ level

starts_later : (k l : ℕ) (ts : List Token) → k ≤ l → StartsAt k ts → StartsAt l ts
starts_later k l ts h e = grind arith

no_sign : (under : ℕ) (x : Token) → opens x ≤ under → sign_at under x ≡ None
no_sign under x h = grind (arith, nat_tests)

-- no sign stands there
pub unsigned : (under : ℕ) (operand : Parser Node) (ts : List Token) → StartsAt under ts → signed under operand ts ≡ operand ts
unfolding signed
unsigned under operand ts h = grind (arith, no_sign)

sign_opens : (op : Prefix) → opens (prefix_token op) ≤ suc (prefix_under op)
sign_opens op = grind arith

-- nor the end of an argument
pub starts_given : (locale : Locale) (ts : List Token) → StartsAt 10 ts → is_empty_here locale ts ≡ false
starts_given locale ts h = grind arith

pub starts_no_close : (ts : List Token) → StartsAt 10 ts → closing ts ≡ None
starts_no_close ts h = grind arith

-- ---- no tree is a parameter with a separator after it

-- no separator stands there
abbrev pub GoesOn : Locale → List Token → Type 0
GoesOn locale [] = Unit {0}
GoesOn locale (x ∷ ts) = is_separator locale x ≡ false

no_word : (locale : Locale) (word : List ℕ) (ts : List Token) → GoesOn locale ts → parameter locale (t.Word word ∷ ts) ≡ None
no_word locale word ts h = grind arith

sign_no_parameter : (locale : Locale) (op : Prefix) (ts : List Token) → parameter locale (prefix_token op ∷ ts) ≡ None
sign_no_parameter locale op ts = grind arith

-- ---- the tokens of a tree, before others

pub record Begins (locale : Locale) (level : ℕ) (ts r : List Token) : Type 0 where
  pub starts : StartsAt level (ts ++ r)
  pub no_parameter : GoesOn locale r → parameter locale (ts ++ r) ≡ None

regrouped : (locale : Locale) (level : ℕ) (a b r : List Token) → Begins locale level a (b ++ r) → GoesOn locale (b ++ r) → Begins locale level (a ++ b) r
regrouped locale level a b r h goes_on = record {
  starts = subst (StartsAt level) (sym (append_assoc a b r)) h.starts;
  no_parameter = λ _. ap (parameter locale) (append_assoc a b r) ∙ h.no_parameter goes_on;
}

mutual
  pub begins : {p : Profile} {level : ℕ} (d : Expression p level) (r : List Token) → Begins p.locale level (expression_tokens d) r
  begins (G.lift {level = l} a) r = let b = begins a r in record { starts = starts_later l (suc l) (expression_tokens a ++ r) (omega arith) b.starts; no_parameter = b.no_parameter }
  begins {p} {level} (G.joined op a b) r =
      regrouped p.locale level (expression_tokens a) (infix_token op ∷ expression_tokens b) r (begins a _) ((known (operator.Infix op)).parts_none p.locale)
  begins {p} {level} (G.followed op a) r = regrouped p.locale level (expression_tokens a) (postfix_token op ∷ []) r (begins a _) ((known (operator.Postfix op)).parts_none p.locale)
  begins {p} (G.signed op a) r = record { starts = sign_opens op; no_parameter = λ _. sign_no_parameter p.locale op (expression_tokens a ++ r) }
  begins {p} (G.word name) r = record { starts = omega arith; no_parameter = no_word p.locale name r }
  begins (G.lambda a) r = lambda_begins a r
  begins _ r = record { starts = omega arith; no_parameter = λ _. refl }

  lambda_begins : {p : Profile} (d : Lambda p) (r : List Token) → Begins p.locale 0 (lambda_tokens d) r
  lambda_begins (G.function name is parameters body) r = record { starts = omega arith; no_parameter = λ _. refl }
  lambda_begins {p} (G.applied a all) r = regrouped p.locale 0 (lambda_tokens a) (t.OpenParenthesis ∷ arguments_tokens all ++ t.CloseParenthesis ∷ []) r (lambda_begins a _) refl
