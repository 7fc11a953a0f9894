use Rattle.std.proofs.Common.{◌≡◌, take, true}
use Rattle.std.specs.List.{list_all}
use Rattle.formula_tree.specs.Numbers.{constant_follows}
use Rattle.formula_tree.proofs.numbers.line_follows.Given as goal

-- the first constants follow the rule
abbrev pub invariant-loop-constant : goal.invariant-loop-constant
invariant-loop-constant l = list_all (constant_follows l.rule) (take l.constant-index l.constant-items) ≡ true
