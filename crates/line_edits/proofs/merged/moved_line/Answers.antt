use Rattle.std.proofs.Common.{◌≡◌, ◌+ℤ◌, arith}
use Rattle.std.proofs.lemmas.Int.{ints, to_z-of_z}
use Rattle.line_edits.specs.Edit.{moved_by}
use Rattle.line_edits.specs.laws.Images.{line_moves}
use Rattle.line_edits.proofs.merged.moved_line.Goals as goal

pub returns-in-Some : goal.returns-in-Some
returns-in-Some c =
    let value = simp (to_z-of_z, c.ranges.last, c.ranges.start, c.ranges.count, c.ranges.delta, c.ranges.line) at c.passed.ensures.value in
    let same : c.in-Some.there ≡ c.args.line +ℤ moved_by c.args.start c.args.count c.args.delta c.args.line =
    cc (c.in-Some.is, value, line_moves c.args.last c.args.start c.args.count c.args.delta c.args.line c.requires.valid c.requires.line) in
    omega (arith, ints, same)

pub returns-in-None : goal.returns-in-None
returns-in-None c =
    let value = simp (to_z-of_z, c.ranges.last, c.ranges.start, c.ranges.count, c.ranges.delta, c.ranges.line) at c.passed.ensures.value in
    absurd (cc (c.in-None.is, value, line_moves c.args.last c.args.start c.args.count c.args.delta c.args.line c.requires.valid c.requires.line))
