use Rattle.std.proofs.Common.{[], ◌∷◌, ◌++◌, ◌<◌, Bool, not, cond, length, take, ap, sym, ◌∙◌, arith}
use Rattle.std.proofs.lemmas.List.Elements.{filter_more}
use Rattle.defined_names.specs.declared.defined_name.DefinedName.{DefinedName}
use Rattle.defined_names.specs.Names.{is_scoped_to, names_left}
use Rattle.defined_names.proofs.of_sheets.names_left.Goals as goal

pub loop-name-preserved : goal.loop-name-preserved
loop-name-preserved c =
    let names = c.args.names.now in
    let i = c.loop-name.name-index in
    let name = c.name-item.result in
    let stays : DefinedName → Bool = λ other. not (is_scoped_to c.args.sheet_id other) in
    let within : i < length names = omega arith in
    c.in_ok-push_left.ensures.names
    ∙ ap (λ left. left ++ cond (stays name) (name ∷ []) []) c.loop-name.invariant
    ∙ ap (λ other. names_left c.args.sheet_id (take i names) ++ cond (stays other) (other ∷ []) []) c.name-item.is
    ∙ sym (filter_more stays names i name within)
