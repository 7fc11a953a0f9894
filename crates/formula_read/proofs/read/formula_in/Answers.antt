use Rattle.std.proofs.Common.{◌≡◌, ◌≤◌, true, false}
use Rattle.formula_tree.specs.declared.Node.{Node}
use Rattle.formula_tree.specs.Depth.{depth_of}
use Rattle.formula_tree.specs.Numbers.{has_canonical_numbers, has_no_negative_number}
use Rattle.formula_tree.specs.laws.NumbersEquations.{numbers_parse_error}
use Rattle.formula_tree.specs.ParseError.{is_parse_error}
use Rattle.formula_tree.specs.Placed.{is_placed}
use Rattle.formula_tree.specs.laws.PlacedEquations.{placed_parse_error}
use Rattle.formula_tree.specs.declared.numbers.NumberRule.TheVariants.{Canonical, NotNegative}
use Rattle.formula_read.specs.Formula.{IsFormula}
use Rattle.formula_read.proofs.Reading.{error_has, error_shallow, error_told, no_tree, same_tree}
use Rattle.formula_read.proofs.read.formula_in.Goals as goal

pub returns-in-None-clause-found : goal.returns-in-None-clause-found
returns-in-None-clause-found c =
    error_has c.args.text.now c.parse_error.result (λ tree. is_parse_error tree ≡ false → IsFormula c.args.profile c.args.text.now tree)
    (error_told c.args.text.now _) c.parse_error.ensures.node

pub returns-in-None-clause-placed : goal.returns-in-None-clause-placed
returns-in-None-clause-placed c =
    error_has c.args.text.now c.parse_error.result (λ tree. is_placed c.args.profile.place tree ≡ true) (placed_parse_error c.args.profile.place c.args.text.now) c.parse_error.ensures.node

pub returns-in-None-clause-shallow : goal.returns-in-None-clause-shallow
returns-in-None-clause-shallow c = error_has c.args.text.now c.parse_error.result (λ tree. depth_of tree ≤ 64) (error_shallow c.args.text.now) c.parse_error.ensures.node

pub returns-in-None-clause-canonical : goal.returns-in-None-clause-canonical
returns-in-None-clause-canonical c = error_has c.args.text.now c.parse_error.result (λ tree. has_canonical_numbers tree ≡ true) (numbers_parse_error Canonical c.args.text.now) c.parse_error.ensures.node

pub returns-in-None-clause-positive : goal.returns-in-None-clause-positive
returns-in-None-clause-positive c =
    error_has c.args.text.now c.parse_error.result (λ tree. has_no_negative_number tree ≡ true) (numbers_parse_error NotNegative c.args.text.now) c.parse_error.ensures.node

pub returns-in-Some-clause-only : goal.returns-in-Some-clause-only
returns-in-Some-clause-only c other formula = same_tree c.in_ok-tree.field-0 c.in-Some.tree other c.in-Some.is (c.in_ok-tree.ensures.only other formula)

pub returns-in-None-clause-only : goal.returns-in-None-clause-only
returns-in-None-clause-only c =
    error_has c.args.text.now c.parse_error.result (λ tree. (other : Node) → IsFormula c.args.profile c.args.text.now other → tree ≡ other)
    (λ other formula. no_tree c.in_ok-tree.field-0 other _ c.in-None.is (c.in_ok-tree.ensures.only other formula)) c.parse_error.ensures.node
