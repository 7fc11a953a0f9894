-- `==` of what is listed of sheets is equality of the values.
use Rattle.std.proofs.Common.{◌≡◌, ap}
use Rattle.std.specs.Bool.{Decides}
use Rattle.std.specs.Cmp.{unsigned_Decides}
use Rattle.std.specs.Cmp.Lexicographic.{bytes_decides}
use Rattle.std.proofs.lemmas.Bool.Decides.{Decides-like, Decides-and}
use Rattle.base_styles.specs.laws.ColorEquals.{color_equals}
use Rattle.sheet_grid.specs.laws.StateEquals.{state_equals}
use Rattle.user_model.specs.declared.properties.SheetProperties.{SheetProperties}
use Rattle.user_model.specs.contracts.properties.SheetPropertiesPartialEq.TheImpl as properties

pub properties_equals : (a b : SheetProperties) → Decides (properties.ghosts.eq a b) (a ≡ b)
properties_equals a b =
    Decides-like _
    (λ p i. record { name = p.0 i; state = p.1.0 i; sheet_id = p.1.1.0 i; color = p.1.1.1 i })
    (λ e. (ap (λ x. x.name) e, (ap (λ x. x.state) e, (ap (λ x. x.sheet_id) e, ap (λ x. x.color) e))))
    (Decides-and _ _ (bytes_decides _ _) (Decides-and _ _ (state_equals _ _) (Decides-and _ _ (unsigned_Decides _ _) (color_equals _ _))))
