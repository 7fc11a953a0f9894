-- `==` of decimals is equality of their values.
use Rattle.std.proofs.Common.{◌≡◌, ap}
use Rattle.std.specs.Bool.{Decides}
use Rattle.std.specs.Cmp.{signed_Decides, unsigned_Decides}
use Rattle.std.proofs.lemmas.Bool.Decides.{Decides-like, Decides-and}
use Rattle.base_decimal.specs.declared.decimal.Decimal.{Decimal}
use Rattle.base_decimal.specs.contracts.decimal.DecimalPartialEq.TheImpl as decimal

pub decimal_equals : (a b : Decimal) → Decides (decimal.ghosts.eq a b) (a ≡ b)
decimal_equals a b =
    Decides-like _ (λ p i. record { mantissa = p.0 i; places = p.1 i }) (λ e. (ap (λ x. x.mantissa) e, ap (λ x. x.places) e))
    (Decides-and _ _ (signed_Decides a.mantissa b.mantissa) (unsigned_Decides a.places b.places))
