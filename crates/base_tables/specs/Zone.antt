-- The time zones: their numbers and names.
use Rattle.std.specs.Prelude.{ℕ, Option, List, [], ◌∷◌, codes, slice_get}
use Rattle.base_tables.specs.declared.zone.Zone.{Zone}
use Rattle.base_tables.specs.declared.zone.Zone.TheVariants.{Utc, EuropeBerlin, EuropeParis, EuropeMadrid, AmericaNewYork, AsiaTokyo}
use Rattle.base_tables.specs.Tables.{entry_named}

-- in the order of their codes
abbrev pub all_zones : List Zone
all_zones = Utc ∷ EuropeBerlin ∷ EuropeParis ∷ EuropeMadrid ∷ AmericaNewYork ∷ AsiaTokyo ∷ []

-- the number in bytes
abbrev pub zone_code : Zone → ℕ
zone_code Utc = 0
zone_code EuropeBerlin = 1
zone_code EuropeParis = 2
zone_code EuropeMadrid = 3
zone_code AmericaNewYork = 4
zone_code AsiaTokyo = 5

abbrev pub zone_of_code : ℕ → Option Zone
zone_of_code code = slice_get all_zones code

abbrev pub zone_name : Zone → List ℕ
zone_name Utc = codes "UTC"
zone_name EuropeBerlin = codes "Europe/Berlin"
zone_name EuropeParis = codes "Europe/Paris"
zone_name EuropeMadrid = codes "Europe/Madrid"
zone_name AmericaNewYork = codes "America/New_York"
zone_name AsiaTokyo = codes "Asia/Tokyo"

abbrev pub zone_of_name : List ℕ → Option Zone
zone_of_name text = entry_named zone_name all_zones text
