-- When a text is read as itself.
use Rattle.std.proofs.Common.{◌≡◌, ◌≢◌, ℕ, suc, length, Bool, true, false, List, [], ◌∷◌, Option, Some, None, refl, ap, arith}
use Rattle.std.specs.Prelude.{◌||◌, ◌==◌, not, is_some, unwrap_or}
use Rattle.std.specs.Option.{option_map, option_or}
use Rattle.std.specs.Cmp.Lexicographic.{bytes_decides}
use Rattle.base_tables.specs.declared.Language.{Language}
use Rattle.base_tables.specs.declared.Locale.{Locale}
use Rattle.base_tables.specs.declared.Error.{Error}
use Rattle.base_tables.specs.Error.{error_of_text}
use Rattle.base_tables.specs.Language.{boolean_of_text}
use Rattle.base_tables.specs.Locale.{decimal_sign}
use Rattle.base_tables.specs.Tables.{same_text}
use Rattle.base_decimal.specs.declared.Decimal.{Decimal}
use Rattle.base_decimal.specs.laws.Reading.{decimal_of}
use Rattle.formula_grammar.specs.declared.Profile.{Profile}
use Rattle.cell_content.specs.declared.Content.{Content}
use Rattle.cell_content.specs.declared.Content.TheVariants.{Empty, Number, Boolean, Error as ErrorContent, Text, Formula, Dynamic, Array}
use Rattle.cell_input.specs.Inputs.{value_of_text, is_text, reads_as_text, has_lead}

pub is_text-true : (text : List ℕ) (content : Content) → is_text text content ≡ true → content ≡ Text text
is_text-true text Empty e = absurd cc
is_text-true text (Number _) e = absurd cc
is_text-true text (Boolean _) e = absurd cc
is_text-true text (ErrorContent _) e = absurd cc
is_text-true text (Text read) e = ap Text ((bytes_decides read text).0 e)
is_text-true text (Formula _) e = absurd cc
is_text-true text (Dynamic _) e = absurd cc
is_text-true text (Array _ _ _) e = absurd cc

-- ---- values

is_some-chosen : (b : Option Bool) (e : Option Error) (n : Option Decimal)
    → is_some (option_or (option_map Boolean b) (option_or (option_map ErrorContent e) (option_map Number n))) ≡ is_some b || (is_some e || is_some n)
is_some-chosen (Some _) e n = refl
is_some-chosen None (Some _) n = refl
is_some-chosen None None (Some _) = refl
is_some-chosen None None None = refl

pub some_value : (locale : Locale) (l : Language) (text : List ℕ)
    → is_some (value_of_text locale l text) ≡ is_some (boolean_of_text l text) || (is_some (error_of_text l text) || is_some (decimal_of (decimal_sign locale) text))
unfolding value_of_text
some_value locale l text = is_some-chosen (boolean_of_text l text) (error_of_text l text) (decimal_of (decimal_sign locale) text)

-- a value is no text
value_no_text : (text : List ℕ) (b : Option Bool) (e : Option Error) (n : Option Decimal)
    → let value : Option Content = option_or (option_map Boolean b) (option_or (option_map ErrorContent e) (option_map Number n)) in
    is_text text (unwrap_or value (Text text)) ≡ not (is_some value)
value_no_text text (Some _) e n = refl
value_no_text text None (Some _) n = refl
value_no_text text None None (Some _) = refl
value_no_text text None None None = (bytes_decides text text).1 refl

-- ---- texts that are read as themselves

shorter : (c : ℕ) (text : List ℕ) → same_text text (c ∷ text) ≡ false
shorter c text = by (same_text text (c ∷ text)) refl
  where
    by : (t : Bool) → same_text text (c ∷ text) ≡ t → t ≡ false
    by true e = let n : length text ≡ suc (length text) = ap length ((bytes_decides text (c ∷ text)).0 e) in absurd (omega arith)
    by false e = refl

pub marked_reads : (p : Profile) (text : List ℕ) → has_lead text ≡ true → reads_as_text p text ≡ false
marked_reads p [] e = absurd cc
marked_reads p (c ∷ text) e = by (c == 39) refl (c == 61) refl e
  where
    by : (a : Bool) → (c == 39) ≡ a → (b : Bool) → (c == 61) ≡ b → a || b ≡ true → reads_as_text p (c ∷ text) ≡ false
    by true f b g e = rw f (shorter c text)
    by false f true g e = rw (f, g) refl
    by false f false g e = absurd cc

pub plain_reads : (p : Profile) (text : List ℕ) → has_lead text ≡ false → text ≢ [] → reads_as_text p text ≡ not (is_some (value_of_text p.locale p.language text))
unfolding value_of_text
plain_reads p [] e some = absurd (some refl)
plain_reads p (c ∷ text) e some = by (c == 39) refl (c == 61) refl e
  where
    by : (a : Bool) → (c == 39) ≡ a → (b : Bool) → (c == 61) ≡ b → a || b ≡ false → reads_as_text p (c ∷ text) ≡ not (is_some (value_of_text p.locale p.language (c ∷ text)))
    by true f b g e = absurd cc
    by false f true g e = absurd cc
    by false f false g e = rw (f, g) (value_no_text (c ∷ text) (boolean_of_text p.language (c ∷ text)) (error_of_text p.language (c ∷ text)) (decimal_of (decimal_sign p.locale) (c ∷ text)))
