-- `==` of profiles is equality of their values.
use Rattle.std.proofs.Common.{◌≡◌, ap}
use Rattle.std.specs.Bool.{Decides}
use Rattle.std.proofs.lemmas.Bool.Decides.{Decides-like, Decides-and}
use Rattle.base_values.specs.laws.PositionEquals.{position_equals}
use Rattle.base_tables.specs.laws.LocaleEquals.{locale_equals}
use Rattle.base_tables.specs.laws.LanguageEquals.{language_equals}
use Rattle.formula_grammar.specs.declared.profile.Profile.{Profile}
use Rattle.formula_grammar.specs.contracts.profile.ProfilePartialEq.TheImpl as profile

pub profile_equals : (a b : Profile) → Decides (profile.ghosts.eq a b) (a ≡ b)
profile_equals a b =
    Decides-like _ (λ p i. record { place = p.0 i; locale = p.1.0 i; language = p.1.1 i }) (λ e. (ap (λ x. x.place) e, (ap (λ x. x.locale) e, ap (λ x. x.language) e)))
    (Decides-and _ _ (position_equals _ _) (Decides-and _ _ (locale_equals _ _) (language_equals _ _)))
