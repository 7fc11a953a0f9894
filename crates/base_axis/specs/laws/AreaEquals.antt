-- `==` of areas is equality of their values.
use Rattle.std.proofs.Common.{◌≡◌, ap}
use Rattle.std.specs.Bool.{Decides}
use Rattle.std.specs.Cmp.{signed_Decides, unsigned_Decides}
use Rattle.std.proofs.lemmas.Bool.Decides.{Decides-like, Decides-and}
use Rattle.base_axis.specs.declared.area.Area.{Area}
use Rattle.base_axis.specs.contracts.area.AreaPartialEq.TheImpl as area

pub area_equals : (a b : Area) → Decides (area.ghosts.eq a b) (a ≡ b)
area_equals a b =
    Decides-like _ (λ p i. record { sheet = p.0 i; row = p.1.0 i; column = p.1.1.0 i; width = p.1.1.1.0 i; height = p.1.1.1.1 i })
    (λ e. (ap (λ x. x.sheet) e, (ap (λ x. x.row) e, (ap (λ x. x.column) e, (ap (λ x. x.width) e, ap (λ x. x.height) e)))))
    (Decides-and _ _ (unsigned_Decides _ _) (Decides-and _ _ (signed_Decides _ _) (Decides-and _ _ (signed_Decides _ _) (Decides-and _ _ (signed_Decides _ _) (signed_Decides _ _)))))
