use Rattle.std.proofs.Common.{◌≡◌, take, true}
use Rattle.formula_tree.specs.Numbers.{lines_follow}
use Rattle.formula_tree.proofs.numbers.lines_follow.Given as goal

-- the constants of the first lines follow the rule
abbrev pub invariant-loop-line : goal.invariant-loop-line
invariant-loop-line l = lines_follow l.rule (take l.line-index l.line-items) ≡ true
