-- Which decimals are canonical, as those of workbooks are.
use Rattle.std.specs.Prelude.{◌+◌, ◌%◌, ◌^◌, Bool, not, ◌&&◌, ◌==◌, nat_lt, nat_le, unsigned_abs, IsTrue}
use Rattle.base_decimal.specs.declared.decimal.Decimal.{Decimal}

-- no zero digit stands at the end of the places
abbrev pub is_trimmed : Decimal → Bool
is_trimmed d = not (nat_lt 0 d.places && (unsigned_abs d.mantissa % 10 == 0))

-- whether it has at most 15 digits on each side of the point, and no zero digit at the end of the places
unfoldable pub is_canonical : Decimal → Bool
is_canonical d = nat_le d.places 15 && nat_lt (unsigned_abs d.mantissa) (10 ^ (15 + d.places)) && is_trimmed d

-- a canonical decimal
abbrev pub IsCanonical : Decimal → Type 0
IsCanonical d = IsTrue (is_canonical d)
