use Rattle.std.proofs.Common.{◌≡◌, ◌++◌, take}
use Rattle.std.specs.List.{flat_map}
use Rattle.script_dump.specs.Dump.{later_area}
use Rattle.script_dump.proofs.rules.push_later_areas.Given as goal

abbrev pub invariant-loop-area : goal.invariant-loop-area
invariant-loop-area l = l.out.items ≡ l.fn.out.items ++ flat_map later_area (take l.area-index l.areas)
