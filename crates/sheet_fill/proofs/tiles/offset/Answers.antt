use Rattle.std.proofs.Common.{◌≡◌, ℕ, ◌+◌, ◌-◌, ◌*◌, ◌<◌, ◌≤◌, ◌/◌, pos, ◌-ℤ◌, ◌≤ℤ◌, true, false, sym, subst, ap, ◌∙◌, FitsSigned, to_z, of_z, w32, rules, arith}
use Rattle.std.proofs.lemmas.Int.{ints}
use Rattle.std.specs.Prelude.{if◌then◌else◌}
use Rattle.sheet_fill.specs.FillRanges.{lines}
use Rattle.sheet_fill.specs.laws.LineCounts.{lines_few, lines_some}
use Rattle.sheet_fill.proofs.RepeatedLines.{repetition_ends}
use Rattle.sheet_fill.proofs.tiles.offset.Goals as goal

few_enough : (whole many period : ℕ) → whole ≤ many + (period - 1) → many ≤ 1048576 → period ≤ 1048576 → whole ≤ 2097152
few_enough whole many period ends some most = omega arith

fits : (n : ℕ) → n ≤ 2097152 → FitsSigned w32 (pos n)
fits n few = omega (arith, ints)

less_fits : (n : ℕ) → n ≤ 2097152 → FitsSigned w32 (pos 0 -ℤ to_z w32 n)
less_fits n few = omega (arith, ints)

same : (n : ℕ) → n ≤ 2097152 → to_z w32 n ≡ pos n
same n few = omega (arith, ints)

less_same : (n : ℕ) → n ≤ 2097152 → to_z w32 (of_z w32 (pos 0 -ℤ to_z w32 n)) ≡ pos 0 -ℤ pos n
less_same n few = omega (arith, ints)

low : (n : ℕ) → n ≤ 2097152 → (pos 0 -ℤ pos 2097152) ≤ℤ to_z w32 n
low n few = omega (arith, ints)

high : (n : ℕ) → n ≤ 2097152 → to_z w32 n ≤ℤ pos 2097152
high n few = omega (arith, ints)

less_low : (n : ℕ) → n ≤ 2097152 → (pos 0 -ℤ pos 2097152) ≤ℤ to_z w32 (of_z w32 (pos 0 -ℤ to_z w32 n))
less_low n few = omega (arith, ints)

less_high : (n : ℕ) → n ≤ 2097152 → to_z w32 (of_z w32 (pos 0 -ℤ to_z w32 n)) ≤ℤ pos 2097152
less_high n few = omega (arith, ints)

-- a repetition ends not further from the source than this
ends : (many period index count : ℕ) → count ≡ period → 0 < period → many ≤ 1048576 → period ≤ 1048576 → index < (many + (period - 1)) / period → count * (index + 1) ≤ 2097152
ends many period index count is some most few below =
    subst (λ n. n * (index + 1) ≤ 2097152) (sym is) (few_enough (period * (index + 1)) many period (repetition_ends many period index some below) most few)

pub overflow_cast-count : goal.overflow_cast-count
overflow_cast-count g c =
    let a = g.A.Axis.along in
    let f = c.args.range in
    let lawful = g.met.A.Axis.lawful in
    fits (c.lines.result * (c.args.index + 1)) (ends (lines a f.target) (lines a f.source) c.args.index c.lines.result c.lines.ensures.count
    (lines_some a lawful f.source c.requires.range.source) (lines_few a lawful f.target c.requires.range.target) (lines_few a lawful f.source c.requires.range.source) c.requires.index)

pub overflow_sub-result : goal.overflow_sub-result
overflow_sub-result g c =
    let a = g.A.Axis.along in
    let f = c.args.range in
    let lawful = g.met.A.Axis.lawful in
    less_fits (c.lines.result * (c.args.index + 1)) (ends (lines a f.target) (lines a f.source) c.args.index c.lines.result c.lines.ensures.count
    (lines_some a lawful f.source c.requires.range.source) (lines_few a lawful f.target c.requires.range.target) (lines_few a lawful f.source c.requires.range.source) c.requires.index)

pub returns-then-range-clause-low : goal.returns-then-range-clause-low
returns-then-range-clause-low g c =
    let a = g.A.Axis.along in
    let f = c.args.range in
    let lawful = g.met.A.Axis.lawful in
    low (c.lines.result * (c.args.index + 1)) (ends (lines a f.target) (lines a f.source) c.args.index c.lines.result c.lines.ensures.count
    (lines_some a lawful f.source c.requires.range.source) (lines_few a lawful f.target c.requires.range.target) (lines_few a lawful f.source c.requires.range.source) c.requires.index)

pub returns-then-range-clause-high : goal.returns-then-range-clause-high
returns-then-range-clause-high g c =
    let a = g.A.Axis.along in
    let f = c.args.range in
    let lawful = g.met.A.Axis.lawful in
    high (c.lines.result * (c.args.index + 1)) (ends (lines a f.target) (lines a f.source) c.args.index c.lines.result c.lines.ensures.count
    (lines_some a lawful f.source c.requires.range.source) (lines_few a lawful f.target c.requires.range.target) (lines_few a lawful f.source c.requires.range.source) c.requires.index)

pub returns-else-range-clause-low : goal.returns-else-range-clause-low
returns-else-range-clause-low g c =
    let a = g.A.Axis.along in
    let f = c.args.range in
    let lawful = g.met.A.Axis.lawful in
    less_low (c.lines.result * (c.args.index + 1)) (ends (lines a f.target) (lines a f.source) c.args.index c.lines.result c.lines.ensures.count
    (lines_some a lawful f.source c.requires.range.source) (lines_few a lawful f.target c.requires.range.target) (lines_few a lawful f.source c.requires.range.source) c.requires.index)

pub returns-else-range-clause-high : goal.returns-else-range-clause-high
returns-else-range-clause-high g c =
    let a = g.A.Axis.along in
    let f = c.args.range in
    let lawful = g.met.A.Axis.lawful in
    less_high (c.lines.result * (c.args.index + 1)) (ends (lines a f.target) (lines a f.source) c.args.index c.lines.result c.lines.ensures.count
    (lines_some a lawful f.source c.requires.range.source) (lines_few a lawful f.target c.requires.range.target) (lines_few a lawful f.source c.requires.range.source) c.requires.index)

pub returns-then-range-clause-offset : goal.returns-then-range-clause-offset
returns-then-range-clause-offset g c =
    let a = g.A.Axis.along in
    let f = c.args.range in
    let lawful = g.met.A.Axis.lawful in
    let onwards : f.is_behind ≡ true = search rules in
    same (c.lines.result * (c.args.index + 1)) (ends (lines a f.target) (lines a f.source) c.args.index c.lines.result c.lines.ensures.count
    (lines_some a lawful f.source c.requires.range.source) (lines_few a lawful f.target c.requires.range.target) (lines_few a lawful f.source c.requires.range.source) c.requires.index)
    ∙ ap (λ n. pos (n * (c.args.index + 1))) c.lines.ensures.count
    ∙ sym (ap (λ b. if b then pos (lines a f.source * (c.args.index + 1)) else pos 0 -ℤ pos (lines a f.source * (c.args.index + 1))) onwards)

pub returns-else-range-clause-offset : goal.returns-else-range-clause-offset
returns-else-range-clause-offset g c =
    let a = g.A.Axis.along in
    let f = c.args.range in
    let lawful = g.met.A.Axis.lawful in
    let back : f.is_behind ≡ false = search rules in
    less_same (c.lines.result * (c.args.index + 1)) (ends (lines a f.target) (lines a f.source) c.args.index c.lines.result c.lines.ensures.count
    (lines_some a lawful f.source c.requires.range.source) (lines_few a lawful f.target c.requires.range.target) (lines_few a lawful f.source c.requires.range.source) c.requires.index)
    ∙ ap (λ n. pos 0 -ℤ pos (n * (c.args.index + 1))) c.lines.ensures.count
    ∙ sym (ap (λ b. if b then pos (lines a f.source * (c.args.index + 1)) else pos 0 -ℤ pos (lines a f.source * (c.args.index + 1))) back)
