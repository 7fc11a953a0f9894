-- What is typed is no array.
use Rattle.std.proofs.Common.{◌≡◌, ℕ, Bool, true, false, cond, List, [], ◌∷◌, Option, Some, None, refl, ◌∙◌}
use Rattle.std.specs.Prelude.{◌==◌, unwrap_or}
use Rattle.std.specs.Option.{option_map, option_or}
use Rattle.base_values.specs.declared.Position.{Position}
use Rattle.base_decimal.specs.declared.Decimal.{Decimal}
use Rattle.base_decimal.specs.laws.Reading.{decimal_of}
use Rattle.base_tables.specs.declared.Error.{Error as ErrorCode}
use Rattle.base_tables.specs.Error.{error_of_text}
use Rattle.base_tables.specs.Language.{boolean_of_text}
use Rattle.base_tables.specs.Locale.{decimal_sign}
use Rattle.cell_content.specs.declared.Content.{Content}
use Rattle.cell_content.specs.declared.Content.TheVariants.{Number, Boolean, Error, Text, Formula}
use Rattle.cell_content.specs.Fitting.{fits_at}
use Rattle.cell_input.specs.Inputs.{value_of_text, input_of}
use Rattle.formula_grammar.specs.declared.Profile.{Profile}
use Rattle.formula_read.specs.Formula.{formula_of}
use Rattle.edit_plans.specs.Inputs.{IsInput}
use Rattle.sheet_grid.specs.Arrays.{array_at}

module _ (at : Position) where
  value_plain : (a : Option Bool) (b : Option ErrorCode) (c : Option Decimal) (text : List ℕ) → array_at at (unwrap_or (option_or (option_map Boolean a) (option_or (option_map Error b) (option_map Number c))) (Text text)) ≡ None
  value_plain (Some truth) b c text = refl
  value_plain None (Some error) c text = refl
  value_plain None None (Some number) text = refl
  value_plain None None None text = refl

  either_plain : (b : Bool) (x y : Content) → array_at at x ≡ None → array_at at y ≡ None → array_at at (cond b x y) ≡ None
  either_plain true x y h k = h
  either_plain false x y h k = k

  input_plain : (p : Profile) (text : List ℕ) → array_at at (input_of p text) ≡ None
  unfolding value_of_text
  input_plain p [] = refl
  input_plain p (c ∷ rest) =
      either_plain (c == 39) (Text rest) (cond (c == 61) (Formula (formula_of p rest)) (unwrap_or (value_of_text p.locale p.language (c ∷ rest)) (Text (c ∷ rest)))) refl
      (either_plain (c == 61) (Formula (formula_of p rest)) (unwrap_or (value_of_text p.locale p.language (c ∷ rest)) (Text (c ∷ rest))) refl
      (value_plain (boolean_of_text p.language (c ∷ rest)) (error_of_text p.language (c ∷ rest)) (decimal_of (decimal_sign p.locale) (c ∷ rest)) (c ∷ rest)))

-- it is what an input may be
pub typed_input : (place : Position) (p : Profile) (text : List ℕ) (content : Content) → content ≡ input_of p text → fits_at place content ≡ true → IsInput place.row place.column content
typed_input place p text content is fits = record { fits = fits; plain = (λ i. array_at place (is i)) ∙ input_plain place p text }
