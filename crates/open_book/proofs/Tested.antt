-- A result is tested by the rules.
use Rattle.std.proofs.Common.{◌≡◌, ℕ, Option, Some, None, Result, Ok, Err, ap, ◌∙◌}
use Rattle.base_values.specs.declared.EditError.{EditError}
use Rattle.base_values.specs.declared.EditError.TheVariants.{DiffRefused}
use Rattle.sheet_grid.specs.Book.{Book}
use Rattle.sheet_rules.specs.WellFormed.{broken_rule, IsWellFormed}
use Rattle.sheet_history.specs.Diffs.{by_rule, tested}
use Rattle.sheet_history.specs.laws.TestedLaws.{by_rule-kept}

passed_by : (at : ℕ) (book next : Book) (o : Option ℕ) → by_rule at book o ≡ Ok next → ◌≡◌ {A = Result Book EditError} (Ok book) (Ok next)
unfolding by_rule
passed_by at book next None is = is
passed_by at book next (Some rule) is = absurd (let never : ◌≡◌ {A = Result Book EditError} (Err (DiffRefused 0 at)) (Ok next) = is in cc)

-- one that passes is the result
pub passed : (at : ℕ) (answer : Result Book EditError) (next : Book) → tested at answer ≡ Ok next → answer ≡ Ok next
passed at (Ok book) next is = passed_by at book next (broken_rule book) is
passed at (Err error) next is = absurd (let never : ◌≡◌ {A = Result Book EditError} (Err error) (Ok next) = is in cc)

-- a well-formed one passes
pub passes : (at : ℕ) (answer : Result Book EditError) (next : Book) → answer ≡ Ok next → IsWellFormed next → tested at answer ≡ Ok next
passes at answer next is rules = ap (tested at) is ∙ by_rule-kept at next rules
