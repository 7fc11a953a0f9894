use Rattle.std.proofs.Common.{◌≡◌, ◌∷◌, ◌++◌, List, rules, sym}
use Rattle.std.proofs.lemmas.List.Elements.{All-head, All-same, All-rest}
use Rattle.base_values.specs.Places.{IsPlace}
use Rattle.base_values.specs.declared.Position.{Position}
use Rattle.sheet_grid.specs.declared.Cell.{Cell}
use Rattle.script_dump.specs.Dump.{cell_line}
use Rattle.script_dump.proofs.Written.{written_more}
use Rattle.script_dump.proofs.dump.push_cells.Goals as goal

pub push_cell-requires : goal.push_cell-requires
push_cell-requires c =
    let entry : Position × Cell = (c.in-Some.place.now, c.in-Some.cell.now) in
    let step : c.loop-place.place-iterator ≡ entry ∷ c.next.new.self = search rules in
    All-head (λ (e : Position × Cell). IsPlace e.0) entry c.next.new.self (All-same (λ (e : Position × Cell). IsPlace e.0) _ _ (sym step) c.loop-place.invariant.2)

pub loop-place-preserved : goal.loop-place-preserved
loop-place-preserved c =
    let entry : Position × Cell = (c.in-Some.place.now, c.in-Some.cell.now) in
    let rest : List (Position × Cell) = c.next.new.self in
    let step : c.loop-place.place-iterator ≡ entry ∷ rest = search rules in
    let written : c.push_cell.new.out.items ≡ c.loop-place.out.items ++ cell_line entry = c.in_ok-push_cell.ensures.text in (
      tt,
      tt,
      All-rest (λ (e : Position × Cell). IsPlace e.0) entry rest c.loop-place.place-iterator step c.loop-place.invariant.2,
      written_more cell_line c.loop-place.out.items c.push_cell.new.out.items _ entry rest c.loop-place.place-iterator step written c.loop-place.invariant.3,
    )
