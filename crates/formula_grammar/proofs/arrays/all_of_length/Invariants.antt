use Rattle.std.proofs.Common.{◌≡◌, take, true}
use Rattle.std.specs.List.{list_all}
use Rattle.formula_grammar.specs.Words.{has_length}
use Rattle.formula_grammar.proofs.arrays.all_of_length.Given as goal

-- the first lines have so many items
abbrev pub invariant-loop-line : goal.invariant-loop-line
invariant-loop-line l = list_all (has_length l.count) (take l.line-index l.fn.lines) ≡ true
