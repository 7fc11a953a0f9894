-- Keys of maps that ways carry along.
use Rattle.std.proofs.lemmas.Map.Lookups.{CmpEqualImpliesEq}
use Rattle.std.specs.Prelude.{◌≡◌, Option, Some}
use Rattle.std.specs.Cmp.{IsTotalOrder}
use Rattle.std.specs.FinMap.{FinMap, get, keys}
use Rattle.std.specs.declared.cmp.Ordering.{Ordering}
use Rattle.base_maps.specs.Carried.{Inverse, map_at}
use Rattle.line_routes.specs.RouteModel.{RouteModel, IsRoute, back}

-- every key of a map is such a one
abbrev pub KeysAre : {Q X : Type 0} {R : Q → Q → Ordering} → (Q → Type 0) → FinMap R X → Type 0
KeysAre P m = (p : _) (x : _) → get m p ≡ Some x → P p

-- keys in order that fit: the way back takes them back, one that fits goes to one that fits, and there is a way from one to another
pub record AreKeys {Q : Type 0} (R : Q → Q → Ordering) (fits : Q → Type 0) (goes : RouteModel → Q → Option Q) (route_at : RouteModel → Q → Q → RouteModel) : Type 0 where
  pub total : IsTotalOrder R
  pub exact : CmpEqualImpliesEq R
  pub inverse : (w : RouteModel) → IsRoute w → Inverse (goes w) (goes (back w))
  pub lands : (w : RouteModel) → IsRoute w → (p q : Q) → fits p → goes w p ≡ Some q → fits q
  pub is_route : (w : RouteModel) → IsRoute w → (p q : Q) → IsRoute (route_at w p q)
  pub turns : (w : RouteModel) (p q : Q) → route_at (back w) q p ≡ back (route_at w p q)

-- what is brought in stands at keys that fit, and at none where something came to
pub record BringsBeside {Q F : Type 0} {R : Q → Q → Ordering} (fits : Q → Type 0) (goes : RouteModel → Q → Option Q)
    (with_brought : RouteModel → FinMap R F → FinMap R F → FinMap R F) : Type 0 where
  pub beside : (w : RouteModel) → IsRoute w → (m carried : FinMap R F) (p q : Q) → goes w p ≡ Some q → get (with_brought w m carried) q ≡ get carried q
  pub inside : (w : RouteModel) → IsRoute w → (m carried : FinMap R F) → KeysAre fits carried → KeysAre fits (with_brought w m carried)

-- the same entries under keys of another kind
abbrev pub rekeyed : {Q X : Type 0} {R S : Q → Q → Ordering} → FinMap R X → FinMap S X
rekeyed m = map_at (keys m) (get m)
