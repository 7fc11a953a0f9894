-- Tests of the elements of a list that was mapped.
use Rattle.std.proofs.Common.{◌≡◌, Bool, ◌||◌, List, [], ◌∷◌, map, refl, ap}
use Rattle.std.specs.List.{list_any}

-- an element of a mapped list passes where one of the list does after the map
pub list_any-map : {X Y : Type 0} (test : X → Bool) (f : Y → X) (ys : List Y) → list_any test (map f ys) ≡ list_any (λ y. test (f y)) ys
list_any-map test f [] = refl
list_any-map test f (y ∷ ys) = ap (λ b. test (f y) || b) (list_any-map test f ys)
