use Rattle.std.proofs.Common.{[], ◌++◌, ◌<◌, Option, length, take, ap, sym, ◌∙◌, append_assoc, arith}
use Rattle.std.specs.List.{cons_option, filter_map}
use Rattle.base_maps.specs.laws.Lists.{one_left}
use Rattle.defined_names.specs.declared.defined_name.DefinedName.{DefinedName}
use Rattle.defined_names.specs.Names.{copied_name}
use Rattle.defined_names.proofs.of_sheets.names_copied.Goals as goal

pub loop-name-preserved : goal.loop-name-preserved
loop-name-preserved c =
    let names = c.args.names.now in
    let i = c.loop-name.name-index in
    let name = c.name-item.result in
    let copy : DefinedName → Option DefinedName = copied_name c.args.source c.args.sheet_id in
    let within : i < length names = omega arith in
    c.in_ok-push_copied.ensures.names
    ∙ ap (λ copied. copied ++ cons_option (copy name) []) c.loop-name.invariant
    ∙ ap (λ other. c.args.copied ++ filter_map copy (take i names) ++ cons_option (copy other) []) c.name-item.is
    ∙ append_assoc c.args.copied (filter_map copy (take i names)) _
    ∙ ap (λ all. c.args.copied ++ all) (sym (one_left copy names i name within))
