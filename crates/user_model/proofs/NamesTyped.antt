-- An edit of defined names is refused by its names alone, before its formula is read.
use Rattle.std.proofs.Common.{◌≡◌, ℕ, true, false, List, length, Option, Some, None, Result, Ok, Err, ap, ◌∙◌}
use Rattle.std.specs.Prelude.{if◌then◌else◌}
use Rattle.base_values.specs.declared.EditError.{EditError}
use Rattle.base_values.specs.declared.EditError.TheVariants.{BadFormula}
use Rattle.base_values.specs.Answers.{and_then, map_ok}
use Rattle.formula_tree.specs.declared.Node.{Node}
use Rattle.defined_names.specs.declared.DefinedName.{DefinedName}
use Rattle.sheet_grid.specs.Book.{Book}
use Rattle.name_edits.specs.declared.NameChange.{NameChange}
use Rattle.name_edits.specs.NameChanges.{name_made}
use Rattle.name_edits.specs.NameEdits.{name_goes, update_goes, name_added, name_updated, valid_name, with_formula, name_at, is_name_formula}
use Rattle.name_edits.specs.NameEdits.NameEdit.{Add, Update}
use Rattle.edit_plans.specs.NamedEdits.{names_edited}

abbrev new_change : Book → DefinedName → NameChange
new_change book new = record { index = length book.names; old = None; new = Some new }

abbrev changed_at : List ℕ → Node → Book → ℕ × Option ℕ → Result NameChange EditError
changed_at text tree book found =
    and_then (name_at found.0 book.names) (λ old. map_ok (λ new. record { index = found.0; old = Some old; new = Some new }) (with_formula found.1 text tree))

abbrev scope_of : DefinedName → Option ℕ
scope_of name = name.scope

abbrev tested : Option ℕ → List ℕ → Node → Book → Result (Option ℕ) EditError
tested scope name tree book = map_ok scope_of (valid_name scope name tree book)

module _ (scope : Option ℕ) (name : List ℕ) (tree : Node) (book : Book) (error : EditError) where
  -- a new name that may not come
  pub valid_refused : name_goes scope name book ≡ Err error → valid_name scope name tree book ≡ Err error
  unfolding valid_name
  valid_refused is = ap (λ r. and_then r (λ id. with_formula id name tree)) is

  pub add_refused : name_goes scope name book ≡ Err error → names_edited (Add scope name tree) book ≡ Err error
  unfolding names_edited name_added
  add_refused is = ap (λ r. map_ok (λ change. name_made change book) (map_ok (new_change book) r)) (valid_refused is)

  pub tested_refused : name_goes scope name book ≡ Err error → tested scope name tree book ≡ Err error
  tested_refused is = ap (map_ok scope_of) (valid_refused is)

-- the scope that may be given is that of the tested name, where its formula is one, and else its formula is refused
module _ (scope id : Option ℕ) (name : List ℕ) (tree : Node) (book : Book) (found : name_goes scope name book ≡ Ok id) where
  by_formula : tested scope name tree book ≡ map_ok scope_of (with_formula id name tree)
  unfolding valid_name
  by_formula = ap (λ r. map_ok scope_of (and_then r (λ id. with_formula id name tree))) found

  pub tested_good : is_name_formula tree ≡ true → tested scope name tree book ≡ Ok id
  tested_good good = by_formula ∙ ap (λ b. map_ok scope_of (if b then Ok (record { name = name; scope = id; formula = tree }) else Err BadFormula)) good

  pub tested_bad : is_name_formula tree ≡ false → tested scope name tree book ≡ Err BadFormula
  tested_bad bad = by_formula ∙ ap (λ b. map_ok scope_of (if b then Ok (record { name = name; scope = id; formula = tree }) else Err BadFormula)) bad

-- a name that may not change
pub update_refused : (scope : Option ℕ) (name : List ℕ) (new_scope : Option ℕ) (new_name : List ℕ) (tree : Node) (book : Book) (error : EditError)
    → update_goes scope name new_scope new_name book ≡ Err error → names_edited (Update scope name new_scope new_name tree) book ≡ Err error
unfolding names_edited name_updated
update_refused scope name new_scope new_name tree book error is = ap (λ r. map_ok (λ change. name_made change book) (and_then r (changed_at new_name tree book))) is
