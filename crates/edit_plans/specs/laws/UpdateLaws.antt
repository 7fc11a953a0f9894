-- Values that go to attributes of styles.
use Rattle.std.proofs.Common.{◌≡◌, ◌≢◌, ℕ, pos, true, false, List, Result, Ok, Err, refl, ap}
use Rattle.std.specs.Prelude.{IsTrue, is_ok}
use Rattle.base_values.specs.declared.EditError.{EditError}
use Rattle.base_values.specs.declared.EditError.TheVariants.{NoMemory, StyleValue}
use Rattle.base_styles.specs.declared.Style.{Style}
use Rattle.base_styles.specs.DefaultStyle.{default_style}
use Rattle.style_edits.specs.Updates.{updated_style}
use Rattle.style_edits.specs.laws.UpdateRules.{updated_error, updated_font}
use Rattle.sheet_rules.specs.WellFormed.{has_font}
use Rattle.edit_plans.specs.RangeEdits.{error_or, may_update, style_or, update_refusal}

-- no value is refused since memory is short
pub refusal_sure : (path value : List ℕ) → update_refusal path value ≢ NoMemory
refusal_sure path value short = go (updated_style default_style path value) refl short
  where
    go : (r : Result Style EditError) → updated_style default_style path value ≡ r → error_or StyleValue r ≡ NoMemory → ⊥
    go (Ok style) is e = absurd (let never : StyleValue ≡ NoMemory = e in cc)
    go (Err error) is e = (updated_error default_style path value error is).sure e

-- a font keeps a size of 1 or more
pub update_sized : (path value : List ℕ) (style : Style) → IsTrue (has_font style) → IsTrue (has_font (style_or style (updated_style style path value)))
update_sized path value style font = go (updated_style style path value) refl
  where
    go : (r : Result Style EditError) → updated_style style path value ≡ r → IsTrue (has_font (style_or style r))
    go (Ok changed) is = updated_font style path value changed is font
    go (Err error) is = font

-- each value that is refused is refused with the same error
pub one_refusal : (path value : List ℕ) (style : Style) → may_update path value (record { row = pos 1; column = pos 1 }) style ≡ false
    → updated_style style path value ≡ Err (update_refusal path value)
one_refusal path value style refused = go (updated_style style path value) refl refused
  where
    go : (r : Result Style EditError) → updated_style style path value ≡ r → is_ok r ≡ false → r ≡ Err (update_refusal path value)
    go (Ok changed) is e = absurd (let never : true ≡ false = e in cc)
    go (Err error) is e = ap Err (same (updated_style default_style path value) refl)
      where
        same : (d : Result Style EditError) → updated_style default_style path value ≡ d → error ≡ error_or StyleValue d
        same (Ok plain) taken = (updated_error style path value error is).value default_style plain taken
        same (Err other) refused = (updated_error style path value error is).one default_style other refused
