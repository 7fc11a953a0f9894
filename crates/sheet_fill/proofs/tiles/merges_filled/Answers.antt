use Rattle.std.proofs.Common.{sym, subst, ◌∙◌}
use Rattle.std.specs.Prelude.{IsTrue}
use Rattle.std.specs.List.{All}
use Rattle.std.proofs.lemmas.List.Elements.{filter_passes}
use Rattle.sheet_fill.specs.Tiles.{is_repeated}
use Rattle.sheet_fill.proofs.tiles.merges_filled.Goals as goal

pub push_all_tiles-requires-clause-repeated : goal.push_all_tiles-requires-clause-repeated
push_all_tiles-requires-clause-repeated g c =
    subst (All (λ merge. IsTrue (is_repeated c.args.range merge))) (sym (c.deref.ensures.value ∙ c.in_ok-repeated.ensures))
    (filter_passes (is_repeated c.args.range) c.args.merges.now)
