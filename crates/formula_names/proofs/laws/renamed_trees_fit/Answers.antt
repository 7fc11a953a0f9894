use Rattle.formula_names.specs.Renamed.{naming}
use Rattle.formula_names.specs.laws.NamedLaws.{depth-named, numbers-named, placed-named}
use Rattle.formula_names.specs.laws.RenamedLaws.{tree_twice}
use Rattle.formula_names.proofs.laws.renamed_trees_fit.Goals as goal

pub returns-clause-depth : goal.returns-clause-depth
returns-clause-depth c = λ reach old new tree. depth-named (naming reach old new) tree

pub returns-clause-numbers : goal.returns-clause-numbers
returns-clause-numbers c = λ rule reach old new tree. numbers-named (naming reach old new) rule tree

pub returns-clause-corners : goal.returns-clause-corners
returns-clause-corners c = λ place reach old new tree. placed-named (naming reach old new) place tree

pub returns-clause-twice : goal.returns-clause-twice
returns-clause-twice c = λ reach old new tree. tree_twice reach old new tree
