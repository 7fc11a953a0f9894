-- `==` of places of a workbook is equality of their values.
use Rattle.std.proofs.Common.{◌≡◌, ap}
use Rattle.std.specs.Bool.{Decides}
use Rattle.std.specs.Cmp.{unsigned_Decides}
use Rattle.std.proofs.lemmas.Bool.Decides.{Decides-like, Decides-and}
use Rattle.base_values.specs.laws.PositionEquals.{position_equals}
use Rattle.base_maps.specs.declared.sheet_place.SheetPlace.{SheetPlace}
use Rattle.base_maps.specs.contracts.sheet_place.SheetPlacePartialEq.TheImpl as sheet_place

pub sheet_place_equals : (a b : SheetPlace) → Decides (sheet_place.ghosts.eq a b) (a ≡ b)
sheet_place_equals a b =
    Decides-like _ (λ p i. record { sheet = p.0 i; place = p.1 i }) (λ e. (ap (λ x. x.sheet) e, ap (λ x. x.place) e))
    (Decides-and _ _ (unsigned_Decides a.sheet b.sheet) (position_equals a.place b.place))
