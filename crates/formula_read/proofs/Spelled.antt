-- The numbers that a text writes are canonical, and none is negative.
use Rattle.std.proofs.Common.{◌≡◌, ℕ, zero, suc, ◌*◌, ◌^◌, ◌<◌, Bool, true, false, List, [], ◌∷◌, ◌++◌, refl, sym, ap, ◌∙◌, arith}
use Rattle.std.specs.Prelude.{ℤ, pos, negsuc, neg_ℤ, ◌*ℤ◌, int_le, encode_utf8_all}
use Rattle.std.proofs.Math.Nat.{one-le-pow}
use Rattle.std.proofs.lemmas.Bool.{and_from}
use Rattle.std.proofs.lemmas.Int.{ints}
use Rattle.std.proofs.lemmas.Str.{encode_ascii, encode_same}
use Rattle.base_decimal.specs.declared.Decimal.{Decimal}
use Rattle.base_decimal.specs.Numeral.{minus_text, numerator, numeral_places, numeral_text}
use Rattle.base_decimal.specs.Value.{SameValue, decimal_from}
use Rattle.base_tables.specs.declared.Language.{Language}
use Rattle.base_tables.specs.declared.Locale.{Locale}
use Rattle.base_tables.specs.Locale.{decimal_sign}
use Rattle.formula_tree.specs.declared.numbers.NumberRule.{NumberRule}
use Rattle.formula_tree.specs.declared.numbers.NumberRule.TheVariants as rule
use Rattle.formula_grammar.specs.declared.Token.{Token}
use Rattle.formula_grammar.specs.declared.Token.TheVariants as t
use Rattle.formula_grammar.specs.Numbers.{token_follows, tokens_follow}
use Rattle.formula_read.specs.Lexicon.{IsNumber, IsTokens, Spells, starts_digit}

-- ---- signs

opposite_apart : (y x : ℕ) → 0 < y → neg_ℤ (pos y) ≡ pos x → ⊥
opposite_apart zero x h e = omega arith
opposite_apart (suc y) x h e = cc

not_below : (m : ℤ) (b x : ℕ) → 0 < b → m *ℤ pos b ≡ pos x → int_le (pos 0) m ≡ true
not_below (pos a) b x h e = grind (arith, ints)
not_below (negsuc a) b x h e = absurd (opposite_apart (suc a * b) x (omega arith) e)

ten_pow : (p : ℕ) → 0 < 10 ^ p
ten_pow p = omega (arith, one-le-pow p 10 (omega arith))

-- a value without a minus
value_positive : (d : Decimal) (n p : ℕ) → SameValue d (decimal_from false n p) → int_le (pos 0) d.mantissa ≡ true
value_positive d n p e = not_below d.mantissa (10 ^ p) (n * 10 ^ d.places) (ten_pow p) e

-- a text that begins with a digit has no minus in front
no_minus : (s rest : List ℕ) → starts_digit s ≡ true → encode_utf8_all s ≡ 45 ∷ rest → ⊥
no_minus [] rest starts e = cc
no_minus (c ∷ s) rest starts e =
    let minus : c ≡ 45 = (encode_same c 45 (encode_utf8_all s) rest (e ∙ ap (λ (l : List ℕ). l ++ rest) (sym (encode_ascii 45 (omega arith))))).0 in
    let none : false ≡ true = sym (ap (λ (x : ℕ). starts_digit (x ∷ s)) minus) ∙ starts in cc

number_positive : (locale : Locale) (number : Decimal) (s : List ℕ) → IsNumber locale number s → int_le (pos 0) number.mantissa ≡ true
number_positive locale number s is = go is.reads.negative is.reads.written is.reads.is_value
  where
    go : (negative : Bool) → encode_utf8_all s ≡ minus_text negative ++ numeral_text (decimal_sign locale) is.reads.numeral
        → SameValue number (decimal_from negative (numerator is.reads.numeral) (numeral_places is.reads.numeral)) → int_le (pos 0) number.mantissa ≡ true
    go true written value = absurd (no_minus s (numeral_text (decimal_sign locale) is.reads.numeral) is.starts written)
    go false written value = value_positive number (numerator is.reads.numeral) (numeral_places is.reads.numeral) value

-- ---- tokens

token_spelled : (r : NumberRule) (locale : Locale) (language : Language) (token : Token) (s : List ℕ) → Spells locale language token s → token_follows r token ≡ true
token_spelled rule.Canonical locale language (t.Number number) s spells = spells.reads.is_canonical
token_spelled rule.NotNegative locale language (t.Number number) s spells = number_positive locale number s spells
token_spelled r locale language _ s spells = refl

-- the tokens of a text have numbers that are canonical and not negative
pub spelled_follow : (r : NumberRule) (locale : Locale) (language : Language) (text : List ℕ) (tokens : List Token) → IsTokens locale language text tokens → tokens_follow r tokens ≡ true
spelled_follow r locale language text [] spelled = refl
spelled_follow r locale language text (token ∷ tokens) spelled =
    and_from _ _ (token_spelled r locale language token spelled.1.spelled spelled.1.spells) (spelled_follow r locale language spelled.0 tokens spelled.2)
