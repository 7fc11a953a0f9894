-- Laws of ways.
use Rattle.std.proofs.Common.{◌≡◌, true, false, Option, Some, subst}
use Rattle.std.specs.Prelude.{IfSome, if◌then◌else◌}
use Rattle.base_values.specs.declared.Position.{Position}
use Rattle.base_values.specs.Places.{IsPlace}
use Rattle.base_maps.specs.Carried.{Inverse}
use Rattle.line_edits.specs.laws.PlaceLaws.{turned_one_to_one, image_inside, image_inverse}
use Rattle.line_edits.specs.Moves.{place_image}
use Rattle.base_axis.specs.Along.{Along, IsAxis}
use Rattle.line_edits.specs.declared.EditKind.{EditKind}
use Rattle.line_edits.specs.Edit.{IsValid}
use Rattle.line_edits.specs.laws.OneToOne.{edit_one_to_one}
use Rattle.line_routes.specs.EditRoute.{edit_route}
use Rattle.line_routes.specs.RouteModel.{RouteModel, IsRoute, at, back, place_goes}
use Rattle.base_maps.specs.laws.Inverses.{own_inverse}

-- the way back is a route, and so is that of what goes from a place to a place
pub back_is_route : (w : RouteModel) → IsRoute w → IsRoute (back w)
back_is_route w is = record { axis = is.axis; one_to_one = turned_one_to_one w.along.last w.moves is.one_to_one }

pub at_is_route : (w : RouteModel) → IsRoute w → (p q : Position) → IsRoute (at w p q)
at_is_route w is p q = record { axis = is.axis; one_to_one = is.one_to_one }

-- so do those of a sheet along a route
pub goes_inverse : (w : RouteModel) → IsRoute w → Inverse (place_goes w) (place_goes (back w))
unfolding place_goes
goes_inverse w is = elim w.is_edited as (λ b. Inverse (λ p. if b then place_image w.along w.moves.to p else Some p)
    (λ p. if b then place_image w.along w.moves.from p else Some p))
    [ true ↦ image_inverse w.along is.axis w.moves is.one_to_one | false ↦ own_inverse ]

pub goes_inside : (w : RouteModel) → IsRoute w → (p : Position) → IsPlace p → IfSome (place_goes w p) IsPlace
unfolding place_goes
goes_inside w is p h = elim w.is_edited as (λ b. IfSome (if b then place_image w.along w.moves.to p else Some p) IsPlace)
    [ true ↦ image_inside w.along is.axis w.moves is.one_to_one p h | false ↦ h ]

-- where a place of the sheet goes is one too
pub goes_there : (w : RouteModel) → IsRoute w → (p q : Position) → IsPlace p → place_goes w p ≡ Some q → IsPlace q
goes_there w is p q h there = let Q : Option Position → Type 0 = λ o. IfSome o IsPlace in subst Q there (goes_inside w is p h)

-- the route of a valid edit is one
pub edit_is_route : (a : Along) → IsAxis a → (e : EditKind) → IsValid a.last e → IsRoute (edit_route a e)
edit_is_route a lawful e valid = record { axis = lawful; one_to_one = edit_one_to_one a.last e valid }
