use Rattle.std.proofs.Common.{sym, subst, arith}
use Rattle.std.proofs.lemmas.Int.{ints}
use Rattle.base_axis.specs.laws.RectangleLaws.{held_inside}
use Rattle.base_values.specs.Places.{IsPlace}
use Rattle.sheet_navigation.proofs.Edges.{left_edge, right_edge, up_edge, down_edge, edge_inside}
use Rattle.sheet_navigation.proofs.navigate.far_edge.Goals as goal

pub returns-in-Left-clause-value : goal.returns-in-Left-clause-value
returns-in-Left-clause-value c =
    let held = held_inside c.args.merge c.args.place c.requires.merge c.requires.place in
    left_edge c.args.direction c.args.merge c.args.place _ _ c.in-Left.is (omega (arith, ints)) (omega (arith, ints))

pub returns-in-Left-clause-inside : goal.returns-in-Left-clause-inside
returns-in-Left-clause-inside c = subst IsPlace (sym (returns-in-Left-clause-value c)) (edge_inside c.args.direction c.args.merge c.args.place c.requires.merge c.requires.place)

pub returns-in-Right-clause-value : goal.returns-in-Right-clause-value
returns-in-Right-clause-value c =
    let held = held_inside c.args.merge c.args.place c.requires.merge c.requires.place in
    right_edge c.args.direction c.args.merge c.args.place _ _ c.in-Right.is (omega (arith, ints)) (omega (arith, ints))

pub returns-in-Right-clause-inside : goal.returns-in-Right-clause-inside
returns-in-Right-clause-inside c = subst IsPlace (sym (returns-in-Right-clause-value c)) (edge_inside c.args.direction c.args.merge c.args.place c.requires.merge c.requires.place)

pub returns-in-Up-clause-value : goal.returns-in-Up-clause-value
returns-in-Up-clause-value c =
    let held = held_inside c.args.merge c.args.place c.requires.merge c.requires.place in
    up_edge c.args.direction c.args.merge c.args.place _ _ c.in-Up.is (omega (arith, ints)) (omega (arith, ints))

pub returns-in-Up-clause-inside : goal.returns-in-Up-clause-inside
returns-in-Up-clause-inside c = subst IsPlace (sym (returns-in-Up-clause-value c)) (edge_inside c.args.direction c.args.merge c.args.place c.requires.merge c.requires.place)

pub returns-in-Down-clause-value : goal.returns-in-Down-clause-value
returns-in-Down-clause-value c =
    let held = held_inside c.args.merge c.args.place c.requires.merge c.requires.place in
    down_edge c.args.direction c.args.merge c.args.place _ _ c.in-Down.is (omega (arith, ints)) (omega (arith, ints))

pub returns-in-Down-clause-inside : goal.returns-in-Down-clause-inside
returns-in-Down-clause-inside c = subst IsPlace (sym (returns-in-Down-clause-value c)) (edge_inside c.args.direction c.args.merge c.args.place c.requires.merge c.requires.place)
