-- The formula of a conditional rule is read where its place is found, and is refused where it is not.
use Rattle.std.proofs.Common.{◌≡◌, ◌≢◌, ℕ, List, Result, Ok, Err, refl, ap, sym, subst, ◌∙◌}
use Rattle.std.specs.Prelude.{IfOk, IsOk, IsOkUnless}
use Rattle.base_values.specs.declared.EditError.{EditError}
use Rattle.base_values.specs.declared.EditError.TheVariants.{NoMemory}
use Rattle.base_values.specs.declared.Position.{Position}
use Rattle.base_values.specs.Answers.{Returns, map_ok}
use Rattle.base_axis.specs.declared.MergedCell.{MergedCell}
use Rattle.base_tables.specs.declared.Language.{Language}
use Rattle.formula_tree.specs.declared.Node.{Node}
use Rattle.sheet_grid.specs.Book.{Book}
use Rattle.user_model.specs.Places.{rule_goes}
use Rattle.user_model.specs.Reading.{formula_at}
use Rattle.user_model.specs.Typing.{rule_formula}

module _ (index : ℕ) (r : MergedCell) (text : List ℕ) (book : Book) (language : Language) where
  -- where it is not found
  pub read_refused : (error : EditError) → rule_goes index r book ≡ Err error → error ≢ NoMemory → Returns {T = Node} (Err error) (rule_formula index r text book language)
  read_refused error is sure = record {
    done = tt;
    refused = λ other. ap (map_ok (λ place. formula_at place text book language)) is;
    memory = λ short. absurd (sure short);
  }

  -- and where it is
  pub read_there : (place : Position) → rule_goes index r book ≡ Ok place → (result : Result Node EditError) → IsOkUnless result NoMemory
      → IfOk result (λ tree. tree ≡ formula_at place text book language) → Returns result (rule_formula index r text book language)
  read_there place is (Ok tree) only output = record {
    done = ap (map_ok (λ at. formula_at at text book language)) is ∙ ap Ok (sym output);
    refused = tt;
    memory = tt;
  }
  read_there place is (Err error) only output = record {
    done = tt;
    refused = λ other. absurd (other only);
    memory = λ short. subst IsOk (sym (ap (map_ok (λ at. formula_at at text book language)) is)) refl;
  }
