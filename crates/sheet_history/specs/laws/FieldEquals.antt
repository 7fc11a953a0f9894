-- `==` of fields of a sheet, and of their changes, is equality of their values.
use Rattle.std.proofs.Common.{◌≡◌, ap}
use Rattle.std.specs.Bool.{Decides}
use Rattle.std.specs.Cmp.{booleans_Decides, signed_Decides}
use Rattle.std.proofs.lemmas.Bool.Decides.{Decides-like, Decides-and}
use Rattle.base_styles.specs.laws.ColorEquals.{color_equals}
use Rattle.sheet_grid.specs.laws.StateEquals.{state_equals}
use Rattle.sheet_history.specs.declared.field.SheetField.{SheetField}
use Rattle.sheet_history.specs.declared.field.SheetField.TheVariants as value
use Rattle.sheet_history.specs.declared.field.FieldChange.{FieldChange}
use Rattle.sheet_history.specs.declared.field.FieldChange.TheVariants as change
use Rattle.sheet_history.specs.contracts.field.SheetFieldPartialEq.TheImpl as field
use Rattle.sheet_history.specs.contracts.field.FieldChangePartialEq.TheImpl as changes

pub sheet_field_equals : (a b : SheetField) → Decides (field.ghosts.eq a b) (a ≡ b)
sheet_field_equals (value.State x) (value.State y) = Decides-like _ (ap value.State) (λ e. cc) (state_equals x y)
sheet_field_equals (value.Color x) (value.Color y) = Decides-like _ (ap value.Color) (λ e. cc) (color_equals x y)
sheet_field_equals (value.GridLines x) (value.GridLines y) = Decides-like _ (ap value.GridLines) (λ e. cc) (booleans_Decides x y)
sheet_field_equals (value.FrozenRows x) (value.FrozenRows y) = Decides-like _ (ap value.FrozenRows) (λ e. cc) (signed_Decides x y)
sheet_field_equals (value.FrozenColumns x) (value.FrozenColumns y) = Decides-like _ (ap value.FrozenColumns) (λ e. cc) (signed_Decides x y)
sheet_field_equals _ _ = (λ e. cc, λ e. cc)

pub field_change_equals : (a b : FieldChange) → Decides (changes.ghosts.eq a b) (a ≡ b)
field_change_equals (change.State o n) (change.State p m) =
    Decides-like _ (λ h i. change.State (h.0 i) (h.1 i)) (λ e. (cc, cc)) (Decides-and _ _ (state_equals o p) (state_equals n m))
field_change_equals (change.Color o n) (change.Color p m) =
    Decides-like _ (λ h i. change.Color (h.0 i) (h.1 i)) (λ e. (cc, cc)) (Decides-and _ _ (color_equals o p) (color_equals n m))
field_change_equals (change.GridLines o n) (change.GridLines p m) =
    Decides-like _ (λ h i. change.GridLines (h.0 i) (h.1 i)) (λ e. (cc, cc)) (Decides-and _ _ (booleans_Decides o p) (booleans_Decides n m))
field_change_equals (change.FrozenRows o n) (change.FrozenRows p m) =
    Decides-like _ (λ h i. change.FrozenRows (h.0 i) (h.1 i)) (λ e. (cc, cc)) (Decides-and _ _ (signed_Decides o p) (signed_Decides n m))
field_change_equals (change.FrozenColumns o n) (change.FrozenColumns p m) =
    Decides-like _ (λ h i. change.FrozenColumns (h.0 i) (h.1 i)) (λ e. (cc, cc)) (Decides-and _ _ (signed_Decides o p) (signed_Decides n m))
field_change_equals _ _ = (λ e. cc, λ e. cc)
