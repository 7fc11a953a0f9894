use Rattle.std.proofs.Common.{◌≡◌, subst}
use Rattle.std.specs.Prelude.{IfOk}
use Rattle.formula_tree.specs.declared.Node.{Node}
use Rattle.formula_grammar.specs.declared.Profile.{Profile}
use Rattle.formula_read.specs.Formula.{IsFormula}
use Rattle.formula_read.proofs.read.read_formula.Goals as goal

pub returns-clause-only : goal.returns-clause-only
returns-clause-only c =
    subst (λ (p : Profile). IfOk c.formula_in.result (λ tree. (other : Node) → IsFormula p c.args.text.now other → tree ≡ other)) c.profile_of.ensures c.formula_in.ensures.only
