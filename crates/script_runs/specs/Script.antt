-- A script's output on the machine that keeps whole earlier and later workbooks.
use Rattle.std.proofs.Common.{ℕ, ◌+◌, pos, List, [], ◌∷◌, ◌++◌, Option, Some, None, Result, Ok, Err, true, false}
use Rattle.std.specs.Prelude.{codes, decimal}
use Rattle.std.specs.List.{flat_map}
use Rattle.std.specs.Option.{option_map, option_map_or}
use Rattle.base_values.specs.declared.EditError.{EditError}
use Rattle.base_values.specs.ErrorNames.{name_of}
use Rattle.base_styles.specs.DefaultStyle.{default_style}
use Rattle.base_tables.specs.declared.Language.TheVariants.{En as English}
use Rattle.base_tables.specs.declared.Locale.TheVariants.{En}
use Rattle.base_tables.specs.declared.Zone.TheVariants.{Utc}
use Rattle.formula_tree.specs.declared.Node.{Node}
use Rattle.format_rules.specs.declared.CfRule.{CfRule}
use Rattle.format_rules.specs.declared.CfRule.TheVariants.{Formula as FormulaRule}
use Rattle.line_edits.specs.declared.EditKind.TheVariants.{Insert, Delete}
use Rattle.sheet_grid.specs.declared.SheetState.TheVariants.{Visible, Hidden}
use Rattle.sheet_grid.specs.Book.{Book, new_book}
use Rattle.sheet_history.specs.declared.LineAxis.TheVariants.{Rows, Columns}
use Rattle.sheet_history.specs.declared.SheetField.TheVariants.{State as StateField, Color as ColorField, GridLines as GridField}
use Rattle.sheet_history.specs.declared.SheetField.TheVariants.{FrozenRows as FrozenRowsField, FrozenColumns as FrozenColumnsField}
use Rattle.sheet_history.specs.declared.Setting.TheVariants as setting
use Rattle.line_sizes.specs.Heights.{line_feeds}
use Rattle.script_lines.specs.Parts.{parts_at, without_return}
use Rattle.script_lines.specs.Escapes.{escaped}
use Rattle.script_lines.specs.Commands.{command_of}
use Rattle.script_lines.specs.Draws.{drawn_commands}
use Rattle.script_lines.specs.declared.Command.{Command}
use Rattle.script_lines.specs.declared.NamedArea.{NamedArea}
use Rattle.script_lines.specs.declared.Command.TheVariants as command
use Rattle.script_dump.specs.Text.{line, hex}
use Rattle.script_dump.specs.Dump.{dump}
use Rattle.name_edits.specs.NameEdits.NameEdit.{Add, Remove, Update}
use Rattle.rule_edits.specs.RuleEdits.RuleEdit.{Add as AddRule, Delete as DeleteRule, Swap as SwapRules}
use Rattle.edit_plans.specs.Edits.{Edit}
use Rattle.edit_plans.specs.Edits.Edit.{Input, ArrayInput, SetLink, Merge, Unmerge, Lines, MoveLines, AddSheet, CopySheet, DeleteSheet, MoveSheet, RenameSheet, ChangeNames, EditRules, SetField, SetSize, SetHidden, SetRangeStyle, ClearRange, ClearFormatting, SetSetting, Fill}
use Rattle.range_styles.specs.declared.Clearing.TheVariants.{Contents, Cells}
use Rattle.open_book.specs.Machine.{State, begun, edit_of, undo_of, redo_of, synced_of, sync_bytes}
use Rattle.user_model.specs.Reading.{content_text, formula_typed, link_to, typed}
use Rattle.user_model.specs.Settings.{language_set, locale_set, zone_set}
use Rattle.script_runs.specs.declared.tally.Tally.{Tally}

-- the state that a script begins with
abbrev pub start : State
start = begun English (new_book (codes "workbook") En Utc)

-- ---- answers

-- what a command answers
pub data Reply : Type 0 where
  -- nothing
  Silence : Reply
  -- that it was carried out
  Done : Reply
  -- that it was refused, and why
  Refused : EditError → Reply
  -- the text of a content
  Value : List ℕ → Reply
  -- the bytes of a sync
  Sent : List ℕ → Reply
  -- a workbook
  Shown : Book → Reply
  -- how many commands were drawn and run, and how their answers count
  Made : ℕ → Tally → Reply

-- the answer to an edit
abbrev pub outcome : {A : Type 0} → Result A EditError → Reply
outcome (Ok done) = Done
outcome (Err error) = Refused error

-- the answer to a question for a content
abbrev pub value_reply : Result (List ℕ) EditError → Reply
value_reply (Ok text) = Value text
value_reply (Err error) = Refused error

-- ---- how answers are written

abbrev pub refusal : EditError → List ℕ
refusal error = line (codes "error " ++ name_of error)

-- a word and a number
abbrev pub number_text : List ℕ → ℕ → List ℕ
number_text word number = word ++ decimal number

abbrev pub made_text : ℕ → Tally → List ℕ
made_text count tally =
    number_text (codes "made ") count ++ number_text (codes " ok ") tally.ok ++ number_text (codes " error ") tally.error ++ number_text (codes " sync ") tally.sync

abbrev pub reply_text : Reply → List ℕ
reply_text Silence = []
reply_text Done = line (codes "ok")
reply_text (Refused error) = refusal error
reply_text (Value text) = line (codes "value " ++ escaped text)
reply_text (Sent bytes) = line (codes "sync " ++ hex bytes)
reply_text (Shown book) = dump book
reply_text (Made count tally) = line (made_text count tally)

-- ---- edits

-- a rule that shows the default style where a formula holds, and stops no other rule
abbrev pub plain_rule : Node → CfRule
plain_rule formula = FormulaRule formula default_style false

-- a rule on one rectangle, whose formula is what the text is read as at its first cell
abbrev pub rule_asked : NamedArea → List ℕ → State → Edit
rule_asked named text s = EditRules (AddRule named.sheet (named.area ∷ []) (plain_rule (formula_typed s.present s.language named.area.row named.area.column text)))

-- the edit that a command asks for, if it asks for one
abbrev pub edit_for : Command → State → Option Edit
edit_for (command.Set cell text) s = Some (Input cell.sheet cell.row cell.column (typed s.present s.language cell.row cell.column text) (line_feeds text))
edit_for (command.Array named text) s = Some (ArrayInput named.sheet named.area (formula_typed s.present s.language named.area.row named.area.column text))
edit_for (command.Link cell text) s = Some (SetLink cell.sheet cell.row cell.column (Some (link_to text)))
edit_for (command.Unlink cell) s = Some (SetLink cell.sheet cell.row cell.column None)
edit_for (command.Merge named) s = Some (Merge named.sheet named.area)
edit_for (command.Unmerge cell) s = Some (Unmerge cell.sheet cell.row cell.column)
edit_for (command.InsertRows lines) s = Some (Lines lines.sheet Rows (Insert lines.first lines.count))
edit_for (command.InsertColumns lines) s = Some (Lines lines.sheet Columns (Insert lines.first lines.count))
edit_for (command.DeleteRows lines) s = Some (Lines lines.sheet Rows (Delete lines.first lines.count))
edit_for (command.DeleteColumns lines) s = Some (Lines lines.sheet Columns (Delete lines.first lines.count))
edit_for (command.MoveRows move) s = Some (MoveLines move.sheet Rows move.first move.count move.delta)
edit_for (command.MoveColumns move) s = Some (MoveLines move.sheet Columns move.first move.count move.delta)
edit_for (command.Width named) s = Some (SetSize named.sheet Columns named.first named.last named.size)
edit_for (command.Height named) s = Some (SetSize named.sheet Rows named.first named.last named.size)
edit_for (command.HideRows span) s = Some (SetHidden span.sheet Rows span.first span.last true)
edit_for (command.ShowRows span) s = Some (SetHidden span.sheet Rows span.first span.last false)
edit_for (command.HideColumns span) s = Some (SetHidden span.sheet Columns span.first span.last true)
edit_for (command.ShowColumns span) s = Some (SetHidden span.sheet Columns span.first span.last false)
edit_for (command.FreezeRows named) s = Some (SetField named.sheet (FrozenRowsField named.count))
edit_for (command.FreezeColumns named) s = Some (SetField named.sheet (FrozenColumnsField named.count))
edit_for (command.FillRows named) s = Some (Fill named.sheet Rows named.area named.to s.language)
edit_for (command.FillColumns named) s = Some (Fill named.sheet Columns named.area named.to s.language)
edit_for command.NewSheet s = Some AddSheet
edit_for (command.DuplicateSheet sheet) s = Some (CopySheet sheet)
edit_for (command.DeleteSheet sheet) s = Some (DeleteSheet sheet)
edit_for (command.MoveSheet move) s = Some (MoveSheet move.from move.to)
edit_for (command.RenameSheet sheet text) s = Some (RenameSheet sheet text)
edit_for (command.Name named text) s = Some (ChangeNames (Add named.scope named.name (formula_typed s.present s.language (pos 1) (pos 1) text)))
edit_for (command.NameUpdate named text) s =
    Some (ChangeNames (Update named.old.scope named.old.name named.new.scope named.new.name (formula_typed s.present s.language (pos 1) (pos 1) text)))
edit_for (command.NameDelete named) s = Some (ChangeNames (Remove named.scope named.name))
edit_for (command.HideSheet sheet) s = Some (SetField sheet (StateField Hidden))
edit_for (command.UnhideSheet sheet) s = Some (SetField sheet (StateField Visible))
edit_for (command.SheetColor named) s = Some (SetField named.sheet (ColorField named.color))
edit_for (command.GridLines named) s = Some (SetField named.sheet (GridField named.show))
edit_for (command.Style named text) s = Some (SetRangeStyle named.area.sheet named.area.area named.path text)
edit_for (command.Clear named) s = Some (ClearRange named.sheet Cells named.area)
edit_for (command.ClearContents named) s = Some (ClearRange named.sheet Contents named.area)
edit_for (command.ClearFormatting named) s = Some (ClearFormatting named.sheet named.area)
edit_for (command.Rule named text) s = Some (rule_asked named text s)
edit_for (command.RuleDelete named) s = Some (EditRules (DeleteRule named.sheet named.index))
edit_for (command.RuleSwap named) s = Some (EditRules (SwapRules named.sheet named.index_a named.index_b))
edit_for (command.Title text) s = Some (SetSetting (setting.Name text))
edit_for (command.ThemeColors theme) s = Some (SetSetting (setting.Theme theme))
edit_for other s = None

-- that rule is added
abbrev pub rule_typed : NamedArea → List ℕ → State → Result State EditError
rule_typed named text s = edit_of (rule_asked named text s) s

-- a refused edit leaves all as it was
abbrev pub state_after : Result State EditError → State → State
state_after (Ok next) s = next
state_after (Err error) s = s

-- ---- commands

-- the next state of a command that the machine may refuse
abbrev pub step_for : Command → State → Option (Result State EditError)
step_for command.Undo s = Some (undo_of s)
step_for command.Redo s = Some (redo_of s)
step_for (command.Locale name) s = Some (locale_set name s)
step_for (command.Zone name) s = Some (zone_set name s)
step_for (command.Language name) s = Some (language_set name s)
step_for asked s = option_map (λ edit. edit_of edit s) (edit_for asked s)

-- the answer to a command that is never refused
abbrev pub other_reply : Command → State → Reply
other_reply (command.Get cell) s = value_reply (content_text cell.sheet cell.row cell.column s.present s.language)
other_reply command.Sync s = Sent (sync_bytes s)
other_reply command.Show s = Shown s.present
other_reply other s = Silence

-- the state after it
abbrev pub other_next : Command → State → State
other_next command.Sync s = synced_of s
other_next other s = s

-- the answer to a command that draws no others
abbrev pub plain_reply : Command → State → Reply
plain_reply asked s = option_map_or outcome (step_for asked s) (other_reply asked s)

-- the state after it
abbrev pub step_next : Command → State → State
step_next asked s = option_map_or (λ next. state_after next s) (step_for asked s) (other_next asked s)

-- the state after such commands, one after another
abbrev pub after : List Command → State → State
after [] s = s
after (c ∷ cs) s = after cs (step_next c s)

-- ---- drawn commands

abbrev pub no_answers : Tally
no_answers = record { ok = 0; error = 0; sync = 0 }

-- one answer more. A sync counts as that alone
abbrev pub counted : Reply → Tally → Tally
counted Done tally = record tally { ok = tally.ok + 1 }
counted (Refused error) tally = record tally { error = tally.error + 1 }
counted (Sent bytes) tally = record tally { sync = tally.sync + 1 }
counted other tally = tally

-- the answers to commands, one after another
abbrev pub tallied : List Command → State → Tally → Tally
tallied [] s tally = tally
tallied (c ∷ cs) s tally = tallied cs (step_next c s) (counted (plain_reply c s) tally)

-- the commands that a command stands for: those that it draws, or itself
abbrev pub commands_in : Command → List Command
commands_in (command.Make run) = drawn_commands run.count run.seed
commands_in other = other ∷ []

-- the answer to a command. Those of drawn commands are counted
abbrev pub reply_to : Command → State → Reply
reply_to (command.Make run) s = Made run.count (tallied (drawn_commands run.count run.seed) s no_answers)
reply_to other s = plain_reply other s

-- ---- lines

-- the commands of a line that is one, and of a line that is none
abbrev pub commands_found : Option Command → List Command
commands_found None = []
commands_found (Some command) = commands_in command

-- those of a line; an empty one has none
abbrev pub commands_on : List ℕ → List Command
commands_on [] = []
commands_on (b ∷ bytes) = commands_found (command_of (b ∷ bytes))

-- those of lines, in order
abbrev pub commands_of : List (List ℕ) → List Command
commands_of lines = flat_map (λ l. commands_on (without_return l)) lines

-- what is written for the command of a line, if it has one
abbrev pub command_reply : Option Command → State → List ℕ
command_reply None s = line (codes "error BadLine")
command_reply (Some command) s = reply_text (reply_to command s)

-- for an empty line nothing is, and a line that is no command is a bad line
abbrev pub line_reply : List ℕ → State → List ℕ
line_reply [] s = []
line_reply (b ∷ bytes) s = command_reply (command_of (b ∷ bytes)) s

-- for lines, one after another
abbrev pub replies : List (List ℕ) → State → List ℕ
replies [] s = []
replies (l ∷ ls) s = line_reply (without_return l) s ++ replies ls (after (commands_on (without_return l)) s)

-- the lines of a script
abbrev pub lines_of : List ℕ → List (List ℕ)
lines_of script = parts_at 10 script

-- all that a script writes: the answers, and the second copy, which is the workbook at the last sync
abbrev pub output_of : List ℕ → List ℕ
output_of script = replies (lines_of script) start ++ line (codes "copy") ++ option_map_or dump (after (commands_of (lines_of script)) start).synced []
