use Rattle.std.proofs.Common.{◌≡◌, ◌++◌, take}
use Rattle.std.specs.List.{flat_map}
use Rattle.script_dump.specs.Dump.{rgb_word}
use Rattle.script_dump.proofs.theme.push_colors.Given as goal

abbrev pub invariant-loop-color : goal.invariant-loop-color
invariant-loop-color l = l.out.items ≡ l.fn.out.items ++ flat_map rgb_word (take l.color-index l.colors)
