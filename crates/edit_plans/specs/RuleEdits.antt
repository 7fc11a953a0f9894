-- Edits of the conditional rules of a sheet: what each changes, when it is refused, and its diffs.
use Rattle.std.specs.Prelude.{List, [], map, Result, Ok, Err}
use Rattle.base_values.specs.declared.EditError.{EditError}
use Rattle.base_values.specs.Answers.{and_then, map_ok}
use Rattle.sheet_grid.specs.Sheet.{Sheet}
use Rattle.sheet_grid.specs.Book.{Book, sheet_at, sheet_edit}
use Rattle.rule_edits.specs.declared.RuleChange.{RuleChange}
use Rattle.rule_edits.specs.RuleEdits.{RuleEdit, rule_changes, rules_after, sheet_index_of}
use Rattle.sheet_history.specs.declared.Diff.{Diff}
use Rattle.sheet_history.specs.declared.Diff.TheVariants.{Rule as RuleDiff}

-- the sheet after changes of its rules, made in order
abbrev pub with_changes : Sheet → List RuleChange → Sheet
with_changes sheet changes = record sheet { formattings = rules_after changes sheet.formattings }

-- the sheet after an edit of its rules, or the edit's first refusal
abbrev pub rules_in : RuleEdit → Sheet → Result Sheet EditError
rules_in edit sheet = map_ok (with_changes sheet) (rule_changes edit sheet.formattings)

-- the workbook after an edit of the rules of one of its sheets, or the edit's first refusal: there is no such sheet. A new rule comes behind
-- the others with the next priority: no part or one that is not inside, a formula that is none or does not fit, or no further priority. A rule
-- becomes another one in its place and keeps its priority: no rule of that index, and then as of a new one. A rule goes, and two exchange
-- their priorities: no rule of one of the indexes
unfoldable pub rules_edited : RuleEdit → Book → Result Book EditError
rules_edited edit book = sheet_edit book (sheet_index_of edit) (rules_in edit)

-- the diffs of changes of the rules of a sheet, one for each
abbrev pub diffs_of : Sheet → List RuleChange → List Diff
diffs_of sheet changes = map (RuleDiff sheet.id) changes

-- the diffs of the changes that an edit makes, by index, or its first refusal
abbrev pub rule_diffs : RuleEdit → Book → Result (List Diff) EditError
rule_diffs edit book = and_then (sheet_at book (sheet_index_of edit)) (λ sheet. map_ok (diffs_of sheet) (rule_changes edit sheet.formattings))

-- the record of diffs, if there are some
abbrev pub all_diffs : Result (List Diff) EditError → List Diff
all_diffs (Ok diffs) = diffs
all_diffs (Err error) = []

abbrev pub rules_record : RuleEdit → Book → List Diff
rules_record edit book = all_diffs (rule_diffs edit book)
