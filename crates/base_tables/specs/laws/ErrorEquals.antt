-- `==` of errors is equality of their values.
use Rattle.std.proofs.Common.{◌≡◌, refl}
use Rattle.std.specs.Bool.{Decides}
use Rattle.base_tables.specs.declared.error.Error.{Error}
use Rattle.base_tables.specs.declared.error.Error.TheVariants.{Ref, Name, Value, DivisionByZero, NotAvailable, Number, General, NotImplemented, Spill, Calc, Circular, Null}
use Rattle.base_tables.specs.contracts.error.ErrorPartialEq.TheImpl as error

pub error_equals : (a b : Error) → Decides (error.ghosts.eq a b) (a ≡ b)
error_equals Ref Ref = (λ _. refl, λ _. refl)
error_equals Name Name = (λ _. refl, λ _. refl)
error_equals Value Value = (λ _. refl, λ _. refl)
error_equals DivisionByZero DivisionByZero = (λ _. refl, λ _. refl)
error_equals NotAvailable NotAvailable = (λ _. refl, λ _. refl)
error_equals Number Number = (λ _. refl, λ _. refl)
error_equals General General = (λ _. refl, λ _. refl)
error_equals NotImplemented NotImplemented = (λ _. refl, λ _. refl)
error_equals Spill Spill = (λ _. refl, λ _. refl)
error_equals Calc Calc = (λ _. refl, λ _. refl)
error_equals Circular Circular = (λ _. refl, λ _. refl)
error_equals Null Null = (λ _. refl, λ _. refl)
error_equals _ _ = (λ e. cc, λ e. cc)
