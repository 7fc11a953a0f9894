-- When a diff of a conditional rule is made. It is taken back as its opposite is made.
use Rattle.std.specs.Prelude.{ℕ, Bool, false, length, Option, Some, None, Result, Ok, Err, if◌then◌else◌}
use Rattle.base_values.specs.declared.EditError.{EditError}
use Rattle.base_values.specs.declared.EditError.TheVariants.{DiffRefused}
use Rattle.sheet_grid.specs.Sheet.{Sheet}
use Rattle.sheet_grid.specs.Book.{Book}
use Rattle.sheet_ids.specs.Ids.{sheet_of}
use Rattle.rule_edits.specs.declared.RuleChange.{RuleChange}
use Rattle.rule_edits.specs.RuleChanges.{change_goes, rules_changed}
use Rattle.sheet_history.specs.Entries.{with_changed}

-- a sheet after a change of its rules
abbrev pub with_rules_changed : RuleChange → Sheet → Sheet
with_rules_changed change sheet = record sheet { formattings = rules_changed change sheet.formattings }

-- the sheet after it. Where it cannot be made, the diff of that number is refused
abbrev pub sheet_rule_put : ℕ → RuleChange → Sheet → Result Sheet EditError
sheet_rule_put at change sheet = if change_goes change (length sheet.formattings) then Ok (with_rules_changed change sheet) else Err (DiffRefused 0 at)

-- the sheet is there, and the change of its rules can be made
abbrev pub takes_change : RuleChange → Option Sheet → Bool
takes_change change None = false
takes_change change (Some sheet) = change_goes change (length sheet.formattings)

-- the workbook after a change of the rules of the sheet of an id
abbrev pub book_rules_changed : ℕ → RuleChange → Book → Book
book_rules_changed id change book = record book { worksheets = with_changed id (with_rules_changed change) book.worksheets }

-- the workbook after it. Where it cannot be made, the diff of that number is refused
unfoldable pub rule_put : ℕ → ℕ → RuleChange → Book → Result Book EditError
rule_put at id change book = if takes_change change (sheet_of book id) then Ok (book_rules_changed id change book) else Err (DiffRefused 0 at)
