-- `==` of kinds of values is equality of them.
use Rattle.std.proofs.Common.{◌≡◌, refl}
use Rattle.std.specs.Bool.{Decides}
use Rattle.user_model.specs.declared.cell_type.CellType.{CellType}
use Rattle.user_model.specs.declared.cell_type.CellType.TheVariants.{Number, Text, LogicalValue, ErrorValue}
use Rattle.user_model.specs.contracts.cell_type.CellTypePartialEq.TheImpl as cell_type

pub cell_type_equals : (a b : CellType) → Decides (cell_type.ghosts.eq a b) (a ≡ b)
cell_type_equals Number Number = (λ _. refl, λ _. refl)
cell_type_equals Text Text = (λ _. refl, λ _. refl)
cell_type_equals LogicalValue LogicalValue = (λ _. refl, λ _. refl)
cell_type_equals ErrorValue ErrorValue = (λ _. refl, λ _. refl)
cell_type_equals _ _ = (λ e. cc, λ e. cc)
