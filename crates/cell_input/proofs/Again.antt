-- What is printed of a content is read as that content.
use Rattle.std.proofs.Common.{◌≡◌, ℕ, Bool, true, false, cond, List, [], ◌∷◌, Some, None, refl, ap, ◌∙◌, arith}
use Rattle.std.specs.Prelude.{◌≤◌, ◌||◌, ◌==◌}
use Rattle.std.specs.Option.{option_and_then}
use Rattle.std.specs.Char.{to_ascii_lowercase}
use Rattle.std.proofs.lemmas.Bool.Decides.{nat_tests}
use Rattle.base_tables.specs.declared.Language.{Language}
use Rattle.base_tables.specs.declared.Language.TheVariants as language
use Rattle.base_tables.specs.declared.Locale.{Locale}
use Rattle.base_tables.specs.declared.Error.{Error}
use Rattle.base_tables.specs.declared.Error.TheVariants as error
use Rattle.base_tables.specs.Error.{error_text, error_of_text}
use Rattle.base_tables.specs.laws.Error.{error_of_text-error_text}
use Rattle.base_tables.specs.Language.{boolean_text, boolean_of_text}
use Rattle.base_tables.specs.Locale.{decimal_sign}
use Rattle.base_decimal.specs.declared.Decimal.{Decimal}
use Rattle.base_decimal.specs.Digits.{is_digit}
use Rattle.base_decimal.specs.laws.Reading.{decimal_of, numeral_at, value_at, whole_value}
use Rattle.base_decimal.specs.Printed.{printed}
use Rattle.base_decimal.proofs.Marks.{prints_back}
use Rattle.base_values.specs.declared.Position.{Position}
use Rattle.formula_grammar.specs.declared.Profile.{Profile}
use Rattle.cell_content.specs.declared.Content.{Content}
use Rattle.cell_content.specs.declared.Content.TheVariants.{Empty, Number, Boolean, Error as ErrorContent, Text, Formula, Dynamic, Array}
use Rattle.cell_input.proofs.Texts.{is_text-true}
use Rattle.cell_input.specs.Inputs.{value_of_text, input_of, reads_as_text, marked_text, IsReadAgain}

-- ---- what a number begins with

-- a minus or a digit
abbrev begins_number : ℕ → Bool
begins_number c = c == 45 || is_digit c

no_digit : (mark : ℕ) (c : ℕ) (text : List ℕ) → is_digit c ≡ false → numeral_at mark (c ∷ text) ≡ None
unfolding numeral_at
no_digit mark c text e = rw e refl

number_begins : (mark : ℕ) (c : ℕ) (text : List ℕ) (d : Decimal) → decimal_of mark (c ∷ text) ≡ Some d → begins_number c ≡ true
unfolding decimal_of
number_begins mark c text d e = by (c == 45) refl (is_digit c) refl e
  where
    by : (m : Bool) → (c == 45) ≡ m → (t : Bool) → is_digit c ≡ t → cond m (value_at mark true text) (value_at mark false (c ∷ text)) ≡ Some d → begins_number c ≡ true
    by true f t g e = ap (λ m. m || is_digit c) f
    by false f true g e = ap (λ m. m || is_digit c) f ∙ g
    by false f false g e = let none : value_at mark false (c ∷ text) ≡ None = ap (option_and_then (whole_value false)) (no_digit mark c text g) in absurd cc

-- ---- no number is the word of a boolean, nor an error

-- a small letter is no lowered minus or digit
other_letter : (b c : ℕ) → 97 ≤ b → begins_number c ≡ true → (b == to_ascii_lowercase c) ≡ false
other_letter b c l e = grind (arith, nat_tests)

other_byte : (b c : ℕ) → b ≤ 44 → begins_number c ≡ true → (b == c) ≡ false
other_byte b c l e = grind (arith, nat_tests)

no_boolean : (l : Language) (c : ℕ) (text : List ℕ) → begins_number c ≡ true → boolean_of_text l (c ∷ text) ≡ None
no_boolean language.En c text e = rw (other_letter 116 c (omega arith) e, other_letter 102 c (omega arith) e) refl
no_boolean language.De c text e = rw (other_letter 119 c (omega arith) e, other_letter 102 c (omega arith) e) refl
no_boolean language.Fr c text e = rw (other_letter 118 c (omega arith) e, other_letter 102 c (omega arith) e) refl
no_boolean language.Es c text e = rw (other_letter 118 c (omega arith) e, other_letter 102 c (omega arith) e) refl

no_error : (l : Language) (c : ℕ) (text : List ℕ) → begins_number c ≡ true → error_of_text l (c ∷ text) ≡ None
no_error language.En c text e = rw (other_byte 35 c (omega arith) e) refl
no_error language.De c text e = rw (other_byte 35 c (omega arith) e) refl
no_error language.Fr c text e = rw (other_byte 35 c (omega arith) e) refl
no_error language.Es c text e = rw (other_byte 35 c (omega arith) e) refl

-- a text that begins with neither sign is read as its value
valued : (p : Profile) (c : ℕ) (rest : List ℕ) (content : Content) → (c == 39) ≡ false → (c == 61) ≡ false → value_of_text p.locale p.language (c ∷ rest) ≡ Some content
    → input_of p (c ∷ rest) ≡ content
valued p c rest content no_text no_formula e = rw (no_text, no_formula, e) refl

-- a text that writes a number is read as that number
number_value : (locale : Locale) (l : Language) (c : ℕ) (text : List ℕ) (d : Decimal) → decimal_of (decimal_sign locale) (c ∷ text) ≡ Some d → begins_number c ≡ true
    → value_of_text locale l (c ∷ text) ≡ Some (Number d)
unfolding value_of_text
number_value locale l c text d e begins = rw (no_boolean l c text begins, no_error l c text begins, e) refl

number_read : (p : Profile) (text : List ℕ) (d : Decimal) → decimal_of (decimal_sign p.locale) text ≡ Some d → input_of p text ≡ Number d
unfolding decimal_of
number_read p [] d e = absurd cc
number_read p (c ∷ text) d e =
    let begins = number_begins (decimal_sign p.locale) c text d e in
    valued p c text (Number d) (no_apostrophe c begins) (no_equals c begins) (number_value p.locale p.language c text d e begins)
  where
    no_apostrophe : (c : ℕ) → begins_number c ≡ true → (c == 39) ≡ false
    no_apostrophe c e = grind (arith, nat_tests)

    no_equals : (c : ℕ) → begins_number c ≡ true → (c == 61) ≡ false
    no_equals c e = grind (arith, nat_tests)

-- ---- the law

abbrev profile : Position → Locale → Language → Profile
profile place locale l = record { place = place; locale = locale; language = l }

boolean_again : (place : Position) (locale : Locale) (l : Language) (value : Bool) → input_of (profile place locale l) (boolean_text l value) ≡ Boolean value
unfolding value_of_text
boolean_again place locale language.En true = refl
boolean_again place locale language.En false = refl
boolean_again place locale language.De true = refl
boolean_again place locale language.De false = refl
boolean_again place locale language.Fr true = refl
boolean_again place locale language.Fr false = refl
boolean_again place locale language.Es true = refl
boolean_again place locale language.Es false = refl

-- a text that begins with `#` and reads as an error
error_value : (locale : Locale) (l : Language) (rest : List ℕ) (error : Error) → error_of_text l (35 ∷ rest) ≡ Some error → value_of_text locale l (35 ∷ rest) ≡ Some (ErrorContent error)
unfolding value_of_text
error_value locale language.En rest error e = rw e refl
error_value locale language.De rest error e = rw e refl
error_value locale language.Fr rest error e = rw e refl
error_value locale language.Es rest error e = rw e refl

error_read : (p : Profile) (rest : List ℕ) (error : Error) → error_of_text p.language (35 ∷ rest) ≡ Some error → input_of p (35 ∷ rest) ≡ ErrorContent error
error_read p rest error e = valued p 35 rest (ErrorContent error) refl refl (error_value p.locale p.language rest error e)

error_again : (p : Profile) (error : Error) → input_of p (error_text error) ≡ ErrorContent error
error_again p error.Ref = error_read p _ error.Ref (error_of_text-error_text p.language error.Ref)
error_again p error.Name = error_read p _ error.Name (error_of_text-error_text p.language error.Name)
error_again p error.Value = error_read p _ error.Value (error_of_text-error_text p.language error.Value)
error_again p error.DivisionByZero = error_read p _ error.DivisionByZero (error_of_text-error_text p.language error.DivisionByZero)
error_again p error.NotAvailable = error_read p _ error.NotAvailable (error_of_text-error_text p.language error.NotAvailable)
error_again p error.Number = error_read p _ error.Number (error_of_text-error_text p.language error.Number)
error_again p error.General = error_read p _ error.General (error_of_text-error_text p.language error.General)
error_again p error.NotImplemented = error_read p _ error.NotImplemented (error_of_text-error_text p.language error.NotImplemented)
error_again p error.Spill = error_read p _ error.Spill (error_of_text-error_text p.language error.Spill)
error_again p error.Calc = error_read p _ error.Calc (error_of_text-error_text p.language error.Calc)
error_again p error.Circular = error_read p _ error.Circular (error_of_text-error_text p.language error.Circular)
error_again p error.Null = error_read p _ error.Null (error_of_text-error_text p.language error.Null)

text_again : (p : Profile) (text : List ℕ) → input_of p (marked_text p text) ≡ Text text
text_again p text = by (reads_as_text p text) refl
  where
    by : (reads : Bool) → reads_as_text p text ≡ reads → input_of p (cond reads text (39 ∷ text)) ≡ Text text
    by true e = is_text-true text (input_of p text) e
    by false e = refl

pub inputs_read_again : IsReadAgain
inputs_read_again p Empty bare kept = refl
inputs_read_again p (Number number) bare kept = number_read p (printed (decimal_sign p.locale) number) number (prints_back p.locale number kept)
inputs_read_again p (Boolean value) bare kept = boolean_again p.place p.locale p.language value
inputs_read_again p (ErrorContent error) bare kept = error_again p error
inputs_read_again p (Text text) bare kept = text_again p text
inputs_read_again p (Formula tree) bare kept = absurd cc
inputs_read_again p (Dynamic tree) bare kept = absurd cc
inputs_read_again p (Array tree _ _) bare kept = absurd cc
