-- The bytes of locales and of time zones: their codes.
use Rattle.std.specs.Prelude.{ℕ, List}
use Rattle.base_tables.specs.declared.Locale.{Locale}
use Rattle.base_tables.specs.Locale.{locale_code}
use Rattle.base_tables.specs.declared.Zone.{Zone}
use Rattle.base_tables.specs.Zone.{zone_code}
use Rattle.base_wire.specs.Encoding.{encode_code}

abbrev pub encode_locale : Locale → List ℕ
encode_locale = encode_code locale_code

abbrev pub encode_zone : Zone → List ℕ
encode_zone = encode_code zone_code
