-- `==` of locales is equality of their values.
use Rattle.std.proofs.Common.{◌≡◌, refl}
use Rattle.std.specs.Bool.{Decides}
use Rattle.base_tables.specs.declared.locale.Locale.{Locale}
use Rattle.base_tables.specs.declared.locale.Locale.TheVariants.{En, De, Fr, Es}
use Rattle.base_tables.specs.contracts.locale.LocalePartialEq.TheImpl as locale

pub locale_equals : (a b : Locale) → Decides (locale.ghosts.eq a b) (a ≡ b)
locale_equals En En = (λ _. refl, λ _. refl)
locale_equals De De = (λ _. refl, λ _. refl)
locale_equals Fr Fr = (λ _. refl, λ _. refl)
locale_equals Es Es = (λ _. refl, λ _. refl)
locale_equals _ _ = (λ e. cc, λ e. cc)
