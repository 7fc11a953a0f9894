use Rattle.std.proofs.Common.{◌≡◌, true, sym, ◌∙◌, rules}
use Rattle.sheet_history.specs.LineDiffs.{stand_on_lost}
use Rattle.sheet_history.proofs.Standing.{inside_of_lost}
use Rattle.sheet_history.proofs.line_diffs.is_kept_inside.Goals as goal

pub returns-then-stand_on_lost-clause-inside : goal.returns-then-stand_on_lost-clause-inside
returns-then-stand_on_lost-clause-inside g c = λ all.
    let stands : stand_on_lost g.A.Axis.along c.args.edit.now.kind c.args.kept.now ≡ true = search rules in
    inside_of_lost g.A.Axis.along c.args.edit.now.kind c.args.kept.now stands (sym c.are_kept_lines_inside.ensures ∙ all)
