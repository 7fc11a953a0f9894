use Rattle.std.proofs.Common.{◌≡◌, map, take}
use Rattle.format_rules.specs.RuleTrees.{icon_changed}
use Rattle.format_rules.proofs.changing.icons_changed.Given as goal

abbrev pub invariant-loop-threshold : goal.invariant-loop-threshold
invariant-loop-threshold g l = l.output ≡ map (icon_changed (g.M.TreeChange.change_of l.fn.change)) (take l.threshold-index l.thresholds)
