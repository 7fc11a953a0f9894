-- Whether a style is the default one.
use Rattle.std.proofs.Common.{◌≡◌, Bool, true, refl}
use Rattle.std.specs.Prelude.{◌↔◌, IsTrue}
use Rattle.base_values.specs.laws.CodedEq.{same_value_decides}
use Rattle.base_styles.specs.declared.Style.{Style}
use Rattle.base_styles.specs.contracts.style.Style as coded_style
use Rattle.base_styles.specs.DefaultStyle.{default_style}
use Rattle.planned_maps.specs.laws.PlannedLaws.{one_test}
use Rattle.sheet_grid.specs.DefaultParts.{is_default}

-- the default style passes
pub default_is : is_default default_style ≡ true
default_is = (same_value_decides coded_style.the_row.coded default_style default_style).1 refl

pub default_test : (passes : Bool) (style : Style) → (IsTrue passes ↔ (style ≡ default_style)) → passes ≡ is_default style
default_test passes style h =
    one_test passes (is_default style)
    (λ it. (same_value_decides coded_style.the_row.coded style default_style).1 (h.0 it))
    (λ it. h.1 ((same_value_decides coded_style.the_row.coded style default_style).0 it))
