use Rattle.std.proofs.Common.{◌≡◌, true, false, cond, not, Ok, Err, ap, sym, subst, ◌∙◌, w32, rules}
use Rattle.std.specs.Prelude.{int_lt}
use Rattle.std.proofs.lemmas.Int.{to_z-of_z}
use Rattle.base_values.specs.declared.EditError.TheVariants.{InvalidArea, NothingToFill}
use Rattle.base_values.specs.Places.{IsLine, is_line}
use Rattle.base_axis.specs.Rectangles.{first_line, is_inside, last_line}
use Rattle.base_axis.specs.laws.RectangleLaws.{inside_found}
use Rattle.base_axis.specs.Along.{outside}
use Rattle.sheet_fill.specs.FillRanges.{ahead, behind, range_of}
use Rattle.sheet_fill.specs.laws.RangedFills.{line_found}
use Rattle.sheet_fill.proofs.range.fill_range.Goals as goal

pub lines-first-requires : goal.lines-first-requires
lines-first-requires g c = let inside : is_inside c.args.source ≡ true = search rules in inside_found c.args.source inside

pub behind-requires-clause-inside : goal.behind-requires-clause-inside
behind-requires-clause-inside g c = let inside : is_inside c.args.source ≡ true = search rules in inside_found c.args.source inside

pub behind-requires-clause-line : goal.behind-requires-clause-line
behind-requires-clause-line g c =
    let on : is_line g.A.Axis.along.last c.args.to ≡ true = search rules in
    subst (IsLine g.A.Axis.along.last) (sym (to_z-of_z w32 c.args.to c.ranges.to)) (line_found g.A.Axis.along.last c.args.to on)

pub ahead-requires-clause-inside : goal.ahead-requires-clause-inside
ahead-requires-clause-inside g c = let inside : is_inside c.args.source ≡ true = search rules in inside_found c.args.source inside

pub ahead-requires-clause-line : goal.ahead-requires-clause-line
ahead-requires-clause-line g c =
    let on : is_line g.A.Axis.along.last c.args.to ≡ true = search rules in
    subst (IsLine g.A.Axis.along.last) (sym (to_z-of_z w32 c.args.to c.ranges.to)) (line_found g.A.Axis.along.last c.args.to on)

pub returns-then-to-first-clause-range : goal.returns-then-to-first-clause-range
unfolding range_of
returns-then-to-first-clause-range g c =
    let a = g.A.Axis.along in
    let source = c.args.source in
    let inside : is_inside source ≡ true = search rules in
    let on : is_line a.last c.args.to ≡ true = search rules in
    let not_behind : int_lt (last_line a source) c.args.to ≡ false = search rules in
    let in_front : int_lt c.args.to (first_line a source) ≡ true = search rules in
    ap Ok (c.ahead.ensures.range ∙ ap (ahead a source) (to_z-of_z w32 c.args.to c.ranges.to))
    ∙ sym (λ i. cond (not (inside i)) (Err InvalidArea)
    (cond (not (on i)) (Err (outside a)) (cond (not_behind i) (Ok (behind a source c.args.to)) (cond (in_front i) (Ok (ahead a source c.args.to)) (Err NothingToFill)))))
