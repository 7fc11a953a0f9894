use Rattle.std.proofs.Common.{◌<◌, cond, length, take, ap, sym, ◌∙◌, arith}
use Rattle.std.specs.FinMap as fin
use Rattle.defined_names.specs.Names.{is_scoped_to, kept_names}
use Rattle.defined_names.proofs.Placed.{kept_more}
use Rattle.defined_names.proofs.of_sheets.kept_names.Goals as goal

pub loop-place-preserved : goal.loop-place-preserved
loop-place-preserved c =
    let id = c.args.sheet_id in
    let names = c.args.names.now in
    let i = c.loop-place.place in
    let name = c.index-names-place.result in
    let within : i < length names = omega arith in
    c.in_ok-keep_name.ensures.kept
    ∙ ap (λ kept. cond (is_scoped_to id name) (fin.insert kept i name) kept) c.loop-place.invariant
    ∙ ap (λ other. cond (is_scoped_to id other) (fin.insert (kept_names id (take i names)) i other) (kept_names id (take i names))) c.index-names-place.is
    ∙ sym (kept_more id names i name within)
