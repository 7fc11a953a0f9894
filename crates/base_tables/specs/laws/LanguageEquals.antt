-- `==` of languages is equality of their values.
use Rattle.std.proofs.Common.{◌≡◌, refl}
use Rattle.std.specs.Bool.{Decides}
use Rattle.base_tables.specs.declared.language.Language.{Language}
use Rattle.base_tables.specs.declared.language.Language.TheVariants.{En, De, Fr, Es}
use Rattle.base_tables.specs.contracts.language.LanguagePartialEq.TheImpl as language

pub language_equals : (a b : Language) → Decides (language.ghosts.eq a b) (a ≡ b)
language_equals En En = (λ _. refl, λ _. refl)
language_equals De De = (λ _. refl, λ _. refl)
language_equals Fr Fr = (λ _. refl, λ _. refl)
language_equals Es Es = (λ _. refl, λ _. refl)
language_equals _ _ = (λ e. cc, λ e. cc)
