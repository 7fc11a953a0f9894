use Rattle.std.proofs.Common.{sym, ◌∙◌}
use Rattle.sheet_history.proofs.Standing.{rules_are_inside_where_stand}
use Rattle.sheet_history.proofs.line_diffs.formattings_stand.Goals as goal

pub returns-then-are_there-clause-lie : goal.returns-then-are_there-clause-lie
returns-then-are_there-clause-lie c = λ all. rules_are_inside_where_stand c.args.formattings.now (sym c.each_stands.ensures ∙ all)
