-- `==` of zones is equality of their values.
use Rattle.std.proofs.Common.{◌≡◌, refl}
use Rattle.std.specs.Bool.{Decides}
use Rattle.base_tables.specs.declared.zone.Zone.{Zone}
use Rattle.base_tables.specs.declared.zone.Zone.TheVariants.{Utc, EuropeBerlin, EuropeParis, EuropeMadrid, AmericaNewYork, AsiaTokyo}
use Rattle.base_tables.specs.contracts.zone.ZonePartialEq.TheImpl as zone

pub zone_equals : (a b : Zone) → Decides (zone.ghosts.eq a b) (a ≡ b)
zone_equals Utc Utc = (λ _. refl, λ _. refl)
zone_equals EuropeBerlin EuropeBerlin = (λ _. refl, λ _. refl)
zone_equals EuropeParis EuropeParis = (λ _. refl, λ _. refl)
zone_equals EuropeMadrid EuropeMadrid = (λ _. refl, λ _. refl)
zone_equals AmericaNewYork AmericaNewYork = (λ _. refl, λ _. refl)
zone_equals AsiaTokyo AsiaTokyo = (λ _. refl, λ _. refl)
zone_equals _ _ = (λ e. cc, λ e. cc)
