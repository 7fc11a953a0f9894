use Rattle.std.proofs.Common.{◌≡◌, Vec, Global, None, false, map, subst, rules, arith}
use Rattle.std.proofs.lemmas.Int.{ints}
use Rattle.std.specs.Prelude.{IfSome}
use Rattle.base_axis.specs.Rectangles.{is_inside}
use Rattle.base_styles.specs.declared.Style.{Style}
use Rattle.edit_plans.proofs.Pasting.{area_by_range}
use Rattle.edit_plans.proofs.paste.pasted_area.Goals as goal

pub returns-clause-area : goal.returns-clause-area
returns-clause-area c =
    subst (λ r. IfSome c.grown_area.result (λ area. area ≡ r))
    (area_by_range (map (λ (row : Vec Style Global). row.items) c.args.styles.now) c.args.range (search rules)
    (omega (arith, ints)) (omega (arith, ints)) (omega (arith, ints)) (omega (arith, ints)))
    c.grown_area.ensures.area

pub returns-clause-far : goal.returns-clause-far
returns-clause-far c =
    subst (λ r. c.grown_area.result ≡ None → is_inside r ≡ false)
    (area_by_range (map (λ (row : Vec Style Global). row.items) c.args.styles.now) c.args.range (search rules)
    (omega (arith, ints)) (omega (arith, ints)) (omega (arith, ints)) (omega (arith, ints)))
    c.grown_area.ensures.far
