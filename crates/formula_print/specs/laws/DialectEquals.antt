-- `==` of dialects is equality of the values.
use Rattle.std.proofs.Common.{◌≡◌, refl}
use Rattle.std.specs.Bool.{Decides}
use Rattle.formula_print.specs.declared.style.Dialect.{Dialect}
use Rattle.formula_print.specs.declared.style.Dialect.TheVariants.{Plain, Excel}
use Rattle.formula_print.specs.contracts.style.DialectPartialEq.TheImpl as dialect

pub dialect_equals : (a b : Dialect) → Decides (dialect.ghosts.eq a b) (a ≡ b)
dialect_equals Plain Plain = (λ _. refl, λ _. refl)
dialect_equals Excel Excel = (λ _. refl, λ _. refl)
dialect_equals _ _ = (λ e. cc, λ e. cc)
