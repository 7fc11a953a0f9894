-- Laws of the time zones: their numbers and names.
use Rattle.std.specs.Prelude.{◌≡◌, ℕ, Some, List}
use Rattle.base_tables.specs.declared.zone.Zone.{Zone}
use Rattle.base_tables.specs.laws.Tables.{found_name}
use Rattle.base_tables.specs.Zone.{all_zones, zone_name, zone_of_name}

-- the zone that is found has the name
pub found_zone : (text : List ℕ) (zone : Zone) → zone_of_name text ≡ Some zone → zone_name zone ≡ text
found_zone = found_name zone_name all_zones
