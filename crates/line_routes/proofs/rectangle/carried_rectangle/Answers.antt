use Rattle.std.proofs.Common.{subst, sym}
use Rattle.base_axis.specs.declared.MergedCell.{MergedCell}
use Rattle.base_axis.specs.Rectangles.{IsInside}
use Rattle.line_routes.specs.laws.MergedCellLaws.{between_inside}
use Rattle.line_routes.proofs.rectangle.carried_rectangle.Goals as goal

pub returns-in-Some-Some-clause-inside : goal.returns-in-Some-Some-clause-inside
returns-in-Some-Some-clause-inside g c =
    let P : MergedCell → Type 0 = IsInside in
    subst P (sym c.between.ensures) (between_inside _ _ c.in-Some-Some.ensures.inside c.in-Some-Some.ensures'.inside)
