use Rattle.std.proofs.Common.{◌≡◌, ◌++◌, take}
use Rattle.std.specs.Prelude.{string_bytes}
use Rattle.std.specs.List.{flat_map}
use Rattle.formula_print.specs.Pieces.{later_item}
use Rattle.formula_print.proofs.pieces.push_later_items.Given as goal

abbrev pub invariant-loop-item : goal.invariant-loop-item
invariant-loop-item l = string_bytes l.out ≡ string_bytes l.initial.out ++ flat_map (later_item l.style) (take l.item-index l.items)
