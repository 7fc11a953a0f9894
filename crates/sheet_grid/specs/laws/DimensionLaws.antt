-- The sides of a sheet's dimension are the least and the greatest of what its cells take.
use Rattle.std.proofs.Common.{◌≡◌, ◌≢◌, ℤ, pos, ◌≤ℤ◌, List, [], ◌∷◌, map, refl, sym, ap, subst, arith, ⊎_elim}
use Rattle.std.proofs.lemmas.Int.{ints, fold-int_max_bounds, fold-int_max_reached, fold-int_min_bounds, fold-int_min_reached}
use Rattle.std.proofs.lemmas.List.Elements.{All-contains}
use Rattle.std.specs.Int.{int_max, int_min}
use Rattle.std.specs.List.{fold}
use Rattle.base_axis.specs.Along.{Along, IsAxis}
use Rattle.sheet_grid.specs.declared.dimension.WorksheetDimension.{WorksheetDimension}
use Rattle.sheet_grid.specs.Dimension.{IsLeast, IsGreatest, IsLeastRectangle, IsRectangle, last_corner, first_place}

-- the greatest of numbers is the greatest of them and of a number that is not above it
pub greatest_is : (numbers : List ℤ) (low greatest : ℤ) → low ≤ℤ greatest → IsGreatest numbers greatest → greatest ≡ fold int_max low numbers
greatest_is numbers low greatest above h =
    let f : ℤ = fold int_max low numbers in
    let bounds = fold-int_max_bounds low numbers f refl in
    let up : greatest ≤ℤ f = All-contains (λ k. k ≤ℤ f) numbers greatest bounds.1 h.among in
    ⊎_elim (λ is. omega (arith, ints)) (λ among. let down : f ≤ℤ greatest = All-contains (λ k. k ≤ℤ greatest) numbers f h.above among in omega (arith, ints)) (fold-int_max_reached low numbers f refl)

-- the least of numbers is the least of them and of a number that is not below it
pub least_is : (numbers : List ℤ) (high least : ℤ) → least ≤ℤ high → IsLeast numbers least → least ≡ fold int_min high numbers
least_is numbers high least below h =
    let f : ℤ = fold int_min high numbers in
    let bounds = fold-int_min_bounds high numbers f refl in
    let down : f ≤ℤ least = All-contains (λ k. f ≤ℤ k) numbers least bounds.1 h.among in
    ⊎_elim (λ is. omega (arith, ints)) (λ among. let up : least ≤ℤ f = All-contains (λ k. least ≤ℤ k) numbers f h.below among in omega (arith, ints)) (fold-int_min_reached high numbers f refl)

abbrev EndsAt : List WorksheetDimension → WorksheetDimension → Along → Type 0
EndsAt extents rectangle a = a.line (last_corner rectangle) ≡ fold int_max (pos 1) (map (λ (e : WorksheetDimension). a.line (last_corner e)) extents)

-- along an axis the least rectangle ends where what reaches furthest ends
ends_at : (extents : List WorksheetDimension) (rectangle : WorksheetDimension) → IsRectangle rectangle → IsLeastRectangle extents rectangle → (a : Along) → IsAxis a → EndsAt extents rectangle a
ends_at extents rectangle inside least a l = ⊎_elim
    (λ is. subst (EndsAt extents rectangle) (sym is) (greatest_is _ (pos 1) _ inside.last.0.0 least.max_row))
    (λ is. subst (EndsAt extents rectangle) (sym is) (greatest_is _ (pos 1) _ inside.last.1.0 least.max_column))
    l.one_of

-- that of no cell ends on the first line
ends_at_first : (rectangle : WorksheetDimension) → rectangle ≡ first_place → (a : Along) → IsAxis a → EndsAt [] rectangle a
ends_at_first rectangle first a l = ⊎_elim
    (λ is. subst (EndsAt [] rectangle) (sym is) (ap (λ (r : WorksheetDimension). r.max_row) first))
    (λ is. subst (EndsAt [] rectangle) (sym is) (ap (λ (r : WorksheetDimension). r.max_column) first))
    l.one_of

-- what the dimension of a sheet ensures of these parts: along an axis its last line is the greatest on which one ends, or 1
pub dimension_ends : (extents : List WorksheetDimension) (rectangle : WorksheetDimension) → IsRectangle rectangle → (extents ≡ [] → rectangle ≡ first_place) → (extents ≢ [] → IsLeastRectangle extents rectangle)
    → (a : Along) → IsAxis a → a.line (last_corner rectangle) ≡ fold int_max (pos 1) (map (λ (e : WorksheetDimension). a.line (last_corner e)) extents)
dimension_ends [] rectangle inside none some = ends_at_first rectangle (none refl)
dimension_ends (extent ∷ extents) rectangle inside none some = ends_at (extent ∷ extents) rectangle inside (some (λ e. absurd (cc)))
