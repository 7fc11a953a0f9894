use Rattle.std.proofs.Common.{ap, sym, ◌∙◌, arith}
use Rattle.std.proofs.lemmas.Int.{ints}
use Rattle.std.specs.Option.{option_map_or}
use Rattle.sheet_navigation.specs.Navigated.{far_edge}
use Rattle.sheet_navigation.proofs.Edges.{held_from, start_from}
use Rattle.sheet_navigation.proofs.navigate.walk_start.Goals as goal

pub far_edge-requires-clause-merge : goal.far_edge-requires-clause-merge
far_edge-requires-clause-merge c =
    (held_from c.args.sheet.now c.args.place _ _ (omega (arith, ints)) (omega (arith, ints)) _ _ c.merged_cell_containing.ensures c.in-Some.is c.requires.merges).inside

pub far_edge-requires-clause-place : goal.far_edge-requires-clause-place
far_edge-requires-clause-place c =
    (held_from c.args.sheet.now c.args.place _ _ (omega (arith, ints)) (omega (arith, ints)) _ _ c.merged_cell_containing.ensures c.in-Some.is c.requires.merges).holds_it

pub returns-in-Some-clause-value : goal.returns-in-Some-clause-value
returns-in-Some-clause-value c =
    c.far_edge.ensures.value
    ∙ (ap (λ o. option_map_or (λ merge. far_edge c.args.direction merge c.args.place) o c.args.place) (sym c.in-Some.is)
    ∙ start_from c.args.sheet.now c.args.place _ _ (omega (arith, ints)) (omega (arith, ints)) c.args.direction _ c.merged_cell_containing.ensures)

pub returns-in-None-clause-value : goal.returns-in-None-clause-value
returns-in-None-clause-value c =
    ap (λ o. option_map_or (λ merge. far_edge c.args.direction merge c.args.place) o c.args.place) (sym c.in-None.is)
    ∙ start_from c.args.sheet.now c.args.place _ _ (omega (arith, ints)) (omega (arith, ints)) c.args.direction _ c.merged_cell_containing.ensures
