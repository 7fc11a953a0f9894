use Rattle.std.proofs.Common.{arith}
use Rattle.std.proofs.lemmas.Int.{ints}
use Rattle.sheet_navigation.proofs.Edges.{anchor_from, blank_from}
use Rattle.sheet_navigation.proofs.navigate.shows_nothing.Goals as goal

pub returns : goal.returns
returns c =
    let anchor = anchor_from c.args.sheet.now c.args.place _ _ (omega (arith, ints)) (omega (arith, ints)) c.requires.merges c.requires.place _ _ c.merge_anchor-row.ensures.row c.merge_anchor-row.ensures.column in
    blank_from c.args.sheet.now c.args.place _ _ (omega (arith, ints)) (omega (arith, ints)) c.requires.merges c.requires.place _ _ c.merge_anchor-row.ensures.row c.merge_anchor-row.ensures.column
    _ _ (omega (arith, ints)) (omega (arith, ints)) _ _ c.is_empty_cell.ensures c.unwrap_or.ensures
