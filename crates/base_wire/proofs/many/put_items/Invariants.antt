use Rattle.std.proofs.Common.{◌≡◌, ◌++◌, take}
use Rattle.std.specs.List.{flat_map, AllByRecursion}
use Rattle.base_wire.proofs.many.put_items.Given as goal

-- the first items stand after what the loop began with, and fit where they are known
abbrev pub invariant-loop-item : goal.invariant-loop-item
invariant-loop-item g l =
    (l.out.items ≡ l.initial.out.items ++ flat_map g.P.Part.encoding (take l.item-index l.items)) ×
    AllByRecursion (λ x. g.P.Part.Known x → g.P.Part.Fits x) (take l.item-index l.items)
