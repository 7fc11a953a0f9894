-- The bytes of decimals.
use Rattle.std.specs.Prelude.{ℕ, List, [], ◌∷◌, ◌++◌}
use Rattle.std.specs.Int.{w128}
use Rattle.base_decimal.specs.declared.Decimal.{Decimal}
use Rattle.base_wire.specs.Encoding.{encode_signed}

-- the mantissa in sixteen bytes, and the places
unfoldable pub encode_decimal : Decimal → List ℕ
encode_decimal number = encode_signed w128 number.mantissa ++ (number.places ∷ [])
