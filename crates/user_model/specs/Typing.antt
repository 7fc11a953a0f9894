-- Texts that a user types.
use Rattle.std.proofs.Common.{ℕ, ℤ, pos, List, Option, Result}
use Rattle.base_values.specs.declared.EditError.{EditError}
use Rattle.base_axis.specs.declared.MergedCell.{MergedCell}
use Rattle.base_values.specs.Answers.{map_ok}
use Rattle.base_tables.specs.declared.Language.{Language}
use Rattle.formula_tree.specs.declared.Node.{Node}
use Rattle.defined_names.specs.declared.DefinedName.{DefinedName}
use Rattle.sheet_grid.specs.Book.{Book}
use Rattle.name_edits.specs.NameEdits.{valid_name}
use Rattle.name_edits.specs.NameEdits.NameEdit.{Add, Update}
use Rattle.edit_plans.specs.Edits.Edit.{Input, ArrayInput, ChangeNames, Fill}
use Rattle.line_sizes.specs.Heights.{line_feeds}
use Rattle.sheet_history.specs.declared.LineAxis.{LineAxis}
use Rattle.open_book.specs.Machine.{State, edit_of}
use Rattle.user_model.specs.Places.{rule_goes}
use Rattle.user_model.specs.Reading.{typed, formula_at, formula_typed}

-- a text typed into the cell at a row and a column: it is read in the workbook's locale and in the language of the state, and put there
abbrev pub text_typed : ℕ → ℤ → ℤ → List ℕ → State → Result State EditError
text_typed sheet row column text s = edit_of (Input sheet row column (typed s.present s.language row column text) (line_feeds text)) s

-- a text typed as the array formula of a rectangle: it is read so at the first cell
abbrev pub array_typed : ℕ → MergedCell → List ℕ → State → Result State EditError
array_typed sheet area text s = edit_of (ArrayInput sheet area (formula_typed s.present s.language area.row area.column text)) s

-- a text typed as the formula of a new defined name: it is read so at A1
abbrev pub name_typed : Option ℕ → List ℕ → List ℕ → State → Result State EditError
name_typed scope name text s = edit_of (ChangeNames (Add scope name (formula_typed s.present s.language (pos 1) (pos 1) text))) s

-- as that of a defined name that changes
abbrev pub update_typed : Option ℕ → List ℕ → Option ℕ → List ℕ → List ℕ → State → Result State EditError
update_typed scope name new_scope new_name text s = edit_of (ChangeNames (Update scope name new_scope new_name (formula_typed s.present s.language (pos 1) (pos 1) text))) s

-- the scope of such a new name of a workbook, or why there is none
abbrev pub name_tested : Option ℕ → List ℕ → List ℕ → Book → Language → Result (Option ℕ) EditError
name_tested scope name text book language = map_ok (λ (output : DefinedName). output.scope) (valid_name scope name (formula_typed book language (pos 1) (pos 1) text) book)

-- the formula of a conditional rule that a text is read as, at the first place of a rectangle of the sheet at an index, or why there is none
abbrev pub rule_formula : ℕ → MergedCell → List ℕ → Book → Language → Result Node EditError
rule_formula index r text book language = map_ok (λ place. formula_at place text book language) (rule_goes index r book)

-- a fill of rows or of columns from a rectangle to a line: texts that go on are read in the language of the state
abbrev pub fill_asked : ℕ → LineAxis → MergedCell → ℤ → State → Result State EditError
fill_asked sheet axis source to s = edit_of (Fill sheet axis source to s.language) s
