use Rattle.std.proofs.Common.{sym, subst, arith}
use Rattle.std.proofs.lemmas.Int.{ints}
use Rattle.base_values.specs.Places.{IsPlace}
use Rattle.sheet_navigation.proofs.Walks.{one_step, left_is, right_is, up_is, down_is}
use Rattle.sheet_navigation.proofs.walk.next_place.Goals as goal

pub returns-in-Left-clause-value : goal.returns-in-Left-clause-value
returns-in-Left-clause-value c =
    let h = c.requires.place in
    let next = one_step c.args.direction c.args.place c.requires.place c.requires.step in
    left_is c.args.direction c.args.place _ _ c.in-Left.is (omega (arith, ints)) (omega (arith, ints))

pub returns-in-Left-clause-inside : goal.returns-in-Left-clause-inside
returns-in-Left-clause-inside c = subst IsPlace (sym (returns-in-Left-clause-value c)) (one_step c.args.direction c.args.place c.requires.place c.requires.step).inside

pub returns-in-Right-clause-value : goal.returns-in-Right-clause-value
returns-in-Right-clause-value c =
    let h = c.requires.place in
    let next = one_step c.args.direction c.args.place c.requires.place c.requires.step in
    right_is c.args.direction c.args.place _ _ c.in-Right.is (omega (arith, ints)) (omega (arith, ints))

pub returns-in-Right-clause-inside : goal.returns-in-Right-clause-inside
returns-in-Right-clause-inside c = subst IsPlace (sym (returns-in-Right-clause-value c)) (one_step c.args.direction c.args.place c.requires.place c.requires.step).inside

pub returns-in-Up-clause-value : goal.returns-in-Up-clause-value
returns-in-Up-clause-value c =
    let h = c.requires.place in
    let next = one_step c.args.direction c.args.place c.requires.place c.requires.step in
    up_is c.args.direction c.args.place _ _ c.in-Up.is (omega (arith, ints)) (omega (arith, ints))

pub returns-in-Up-clause-inside : goal.returns-in-Up-clause-inside
returns-in-Up-clause-inside c = subst IsPlace (sym (returns-in-Up-clause-value c)) (one_step c.args.direction c.args.place c.requires.place c.requires.step).inside

pub returns-in-Down-clause-value : goal.returns-in-Down-clause-value
returns-in-Down-clause-value c =
    let h = c.requires.place in
    let next = one_step c.args.direction c.args.place c.requires.place c.requires.step in
    down_is c.args.direction c.args.place _ _ c.in-Down.is (omega (arith, ints)) (omega (arith, ints))

pub returns-in-Down-clause-inside : goal.returns-in-Down-clause-inside
returns-in-Down-clause-inside c = subst IsPlace (sym (returns-in-Down-clause-value c)) (one_step c.args.direction c.args.place c.requires.place c.requires.step).inside
