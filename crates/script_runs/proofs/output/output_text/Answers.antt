use Rattle.std.proofs.Common.{refl}
use Rattle.std.proofs.lemmas.Result.{err_from_is_err_and}
use Rattle.script_runs.specs.Script.{start}
use Rattle.script_runs.proofs.output.output_text.Goals as goal

pub returns-in_err-run_lines-clause-only : goal.returns-in_err-run_lines-clause-only
returns-in_err-run_lines-clause-only c =
    let ran = c.in_err-run_lines.ensures start (c.in_ok-session.ensures {u = _}).stands (refl, refl) in
    let p = err_from_is_err_and c.from_residual-in_err-run_lines.result c.from_residual-in_err-run_lines.ensures.1 in
    rw (p.1, p.2) ran.only

pub returns-in_err-push_line-clause-only : goal.returns-in_err-push_line-clause-only
returns-in_err-push_line-clause-only c =
    let p = err_from_is_err_and c.from_residual-in_err-push_line.result c.from_residual-in_err-push_line.ensures.1 in
    rw (p.1, p.2) refl

pub returns-in_err-push_dump-clause-only : goal.returns-in_err-push_dump-clause-only
returns-in_err-push_dump-clause-only c =
    let p = err_from_is_err_and c.from_residual-in_err-push_dump.result c.from_residual-in_err-push_dump.ensures.1 in
    rw (p.1, p.2) (c.in_err-push_dump.ensures {u = _}).memory
