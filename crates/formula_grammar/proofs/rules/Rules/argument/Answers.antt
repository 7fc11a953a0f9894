use Rattle.std.proofs.Common.{rules}
use Rattle.formula_tree.specs.laws.DepthEquations.{depths}
use Rattle.formula_grammar.proofs.rules.Rules.argument.Goals as goal

pub leaf-requires : goal.leaf-requires
leaf-requires g c = search (rules, depths)
