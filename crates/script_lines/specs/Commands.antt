-- The tables of commands.
use Rattle.std.specs.Prelude.{ℕ, ◌^◌, ◌==◌, Bool, true, false, List, [], ◌∷◌, if◌then◌else◌, codes}
use Rattle.std.specs.List.{find}
use Rattle.std.specs.Str.{is_utf8, bytes_eq}
use Rattle.std.specs.Option.{option_and_then, option_map, option_or}
use Rattle.std.specs.declared.option.Option.{Option}
use Rattle.std.specs.declared.option.Option.TheVariants.{Some, None}
use Rattle.script_lines.specs.Parts.{parts_at, text_of}
use Rattle.script_lines.specs.Number.{number_below, signed_number}
use Rattle.script_lines.specs.References.{reference_of, area_of}
use Rattle.base_styles.specs.declared.RgbColor.{RgbColor}
use Rattle.base_styles.specs.declared.Theme.{Theme}
use Rattle.script_lines.specs.Colors.{color_of, parts_of}
use Rattle.script_lines.specs.Escapes.{unescaped}
use Rattle.script_lines.specs.declared.command.NamedCell.{NamedCell}
use Rattle.script_lines.specs.declared.command.NamedArea.{NamedArea}
use Rattle.script_lines.specs.declared.command.NamedLines.{NamedLines}
use Rattle.script_lines.specs.declared.command.NamedMove.{NamedMove}
use Rattle.script_lines.specs.declared.command.NamedSpan.{NamedSpan}
use Rattle.script_lines.specs.declared.command.NamedSize.{NamedSize}
use Rattle.script_lines.specs.declared.command.NamedFill.{NamedFill}
use Rattle.script_lines.specs.declared.command.NamedCount.{NamedCount}
use Rattle.script_lines.specs.declared.command.NamedSheetMove.{NamedSheetMove}
use Rattle.script_lines.specs.declared.command.NamedColor.{NamedColor}
use Rattle.script_lines.specs.declared.command.NamedGrid.{NamedGrid}
use Rattle.script_lines.specs.declared.command.NamedName.{NamedName}
use Rattle.script_lines.specs.declared.command.NamedPath.{NamedPath}
use Rattle.script_lines.specs.declared.command.NamedUpdate.{NamedUpdate}
use Rattle.script_lines.specs.declared.command.NamedRule.{NamedRule}
use Rattle.script_lines.specs.declared.command.NamedSwap.{NamedSwap}
use Rattle.script_lines.specs.declared.command.NamedRun.{NamedRun}
use Rattle.script_lines.specs.declared.command.Command.{Command}
use Rattle.script_lines.specs.declared.command.Command.TheVariants.{Set, Get, Array, Link, Unlink, Merge, Unmerge, InsertRows, InsertColumns, DeleteRows, DeleteColumns, MoveRows, MoveColumns, NewSheet, DuplicateSheet, DeleteSheet, MoveSheet, RenameSheet, HideSheet, UnhideSheet, SheetColor, GridLines, Name, NameUpdate, NameDelete, Undo, Redo, Sync, Show, Width, Height, HideRows, ShowRows, HideColumns, ShowColumns, FreezeRows, FreezeColumns, Style, Clear, ClearContents, ClearFormatting, Title, ThemeColors, Locale, Zone, Language, FillRows, FillColumns, Rule, RuleDelete, RuleSwap, Make}

-- the next step, if this one has a value
infixl 10 ◌>>=◌
abbrev pub ◌>>=◌ : {A B : Type 0} → Option A → (A → Option B) → Option B
o >>= f = option_and_then f o

-- ---- the words behind a command

-- what the front of some words is read as, and the words behind it
abbrev pub Reader : Type 0 → Type 0
Reader A = List (List ℕ) → Option (A × List (List ℕ))

-- the first word
abbrev pub word : {A : Type 0} → (List ℕ → Option A) → Reader A
word read [] = None
word read (first ∷ words) = option_map (λ value. (value, words)) (read first)

-- `S`, the index of a sheet
abbrev pub sheet_word : Reader ℕ
sheet_word words = word (number_below (2 ^ 32)) words

-- `S REF`
abbrev pub cell_words : Reader NamedCell
cell_words words = do
  sheet ← sheet_word words
  place ← word reference_of sheet.1
  Some (record { sheet = sheet.0; row = place.0.row; column = place.0.column }, place.1)

-- `S AREA`
abbrev pub area_words : Reader NamedArea
area_words words = do
  sheet ← sheet_word words
  area ← word area_of sheet.1
  Some (record { sheet = sheet.0; area = area.0 }, area.1)

-- `S N N`: a first line, and how many
abbrev pub lines_words : Reader NamedLines
lines_words words = do
  sheet ← sheet_word words
  first ← word signed_number sheet.1
  count ← word signed_number first.1
  Some (record { sheet = sheet.0; first = first.0; count = count.0 }, count.1)

-- `S N N N`: the same, and by how many they move
abbrev pub move_words : Reader NamedMove
move_words words = do
  lines ← lines_words words
  delta ← word signed_number lines.1
  Some (record { sheet = lines.0.sheet; first = lines.0.first; count = lines.0.count; delta = delta.0 }, delta.1)

-- `S N N` as a first line and a last one, and `S N N N` as these and a size
abbrev pub span_of : NamedLines → NamedSpan
span_of lines = record { sheet = lines.sheet; first = lines.first; last = lines.count }

abbrev pub size_of : NamedMove → NamedSize
size_of move = record { sheet = move.sheet; first = move.first; last = move.count; size = move.delta }

-- `S AREA N`: a rectangle, and the line to which it is filled
abbrev pub fill_words : Reader NamedFill
fill_words words = do
  named ← area_words words
  to ← word signed_number named.1
  Some (record { sheet = named.0.sheet; area = named.0.area; to = to.0 }, to.1)

-- `S N`: how many
abbrev pub count_words : Reader NamedCount
count_words words = do
  sheet ← sheet_word words
  count ← word signed_number sheet.1
  Some (record { sheet = sheet.0; count = count.0 }, count.1)

-- `S S`: a sheet, and the index that it goes to
abbrev pub sheet_move_words : Reader NamedSheetMove
sheet_move_words words = do
  from ← sheet_word words
  to ← sheet_word from.1
  Some (record { from = from.0; to = to.0 }, to.1)

-- `S INDEX`: a sheet, and the index of a rule of its own, which is read alike
abbrev pub rule_words : Reader NamedRule
rule_words words = do
  sheet ← sheet_word words
  index ← sheet_word sheet.1
  Some (record { sheet = sheet.0; index = index.0 }, index.1)

-- `S INDEX INDEX`
abbrev pub swap_words : Reader NamedSwap
swap_words words = do
  sheet ← sheet_word words
  index_a ← sheet_word sheet.1
  index_b ← sheet_word index_a.1
  Some (record { sheet = sheet.0; index_a = index_a.0; index_b = index_b.0 }, index_b.1)

-- `SEED COUNT`: a number of 64 bits, and one that is at most 100,000
abbrev pub run_words : Reader NamedRun
run_words words = do
  seed ← word (number_below (2 ^ 64)) words
  count ← word (number_below 100001) seed.1
  Some (record { seed = seed.0; count = count.0 }, count.1)

-- `S COLOUR`
abbrev pub color_words : Reader NamedColor
color_words words = do
  sheet ← sheet_word words
  color ← word color_of sheet.1
  Some (record { sheet = sheet.0; color = color.0 }, color.1)

-- whether a digit is 1, where it is 0 or 1
abbrev pub bit_of : List ℕ → Option Bool
bit_of (b ∷ []) = if b == 48 then Some false else (if b == 49 then Some true else None)
bit_of bytes = None

-- `S 0|1`
abbrev pub grid_words : Reader NamedGrid
grid_words words = do
  sheet ← sheet_word words
  show ← word bit_of sheet.1
  Some (record { sheet = sheet.0; show = show.0 }, show.1)

-- SCOPE: `-` for the whole workbook, or the index of a sheet
abbrev pub scope_of : List ℕ → Option (Option ℕ)
scope_of bytes = if bytes_eq bytes (codes "-") then Some None else option_map Some (number_below (2 ^ 32) bytes)

-- NAME and WORD: a word that is not empty
abbrev pub name_of : List ℕ → Option (List ℕ)
name_of [] = None
name_of (b ∷ bytes) = Some (b ∷ bytes)

-- `SCOPE NAME`
abbrev pub name_words : Reader NamedName
name_words words = do
  scope ← word scope_of words
  name ← word name_of scope.1
  Some (record { scope = scope.0; name = name.0 }, name.1)

-- `SCOPE NAME SCOPE NAME`
abbrev pub update_words : Reader NamedUpdate
update_words words = do
  old ← name_words words
  new ← name_words old.1
  Some (record { old = old.0; new = new.0 }, new.1)

-- `S AREA PATH`
abbrev pub path_words : Reader NamedPath
path_words words = do
  area ← area_words words
  path ← word name_of area.1
  Some (record { area = area.0; path = path.0 }, path.1)

-- two `#RRGGBB`
abbrev pub two_parts : Reader (RgbColor × RgbColor)
two_parts words = do
  one ← word parts_of words
  other ← word parts_of one.1
  Some ((one.0, other.0), other.1)

-- twelve `#RRGGBB`
abbrev pub theme_words : Reader Theme
theme_words words = do
  first ← two_parts words
  second ← two_parts first.1
  third ← two_parts second.1
  fourth ← two_parts third.1
  fifth ← two_parts fourth.1
  sixth ← two_parts fifth.1
  Some (
    record {
      light1 = first.0.0;
      dark1 = first.0.1;
      light2 = second.0.0;
      dark2 = second.0.1;
      accent1 = third.0.0;
      accent2 = third.0.1;
      accent3 = fourth.0.0;
      accent4 = fourth.0.1;
      accent5 = fifth.0.0;
      accent6 = fifth.0.1;
      hyperlink = sixth.0.0;
      followed_hyperlink = sixth.0.1;
    },
    sixth.1,
  )

-- no word is left
abbrev pub ended : {A : Type 0} → A × List (List ℕ) → Option A
ended (value, []) = Some value
ended (value, next ∷ words) = None

-- the rest of the line is a text
abbrev pub with_text : {A : Type 0} → A × List (List ℕ) → Option (A × List ℕ)
with_text (value, words) = option_map (λ text. (value, text)) (unescaped (text_of words))

-- ---- the tables

-- words that begin commands of one form, and the command that each makes of a value of that form
abbrev pub Table : Type 0 → Type 0
Table A = List (List ℕ × (A → Command))

-- the command of a word and a value by a table
abbrev pub by_table : {A : Type 0} → Table A → List ℕ → A → Option Command
by_table table first value = option_map (λ entry. entry.1 value) (find (λ entry. bytes_eq entry.0 first) table)

-- the command of a word with these words behind it and no others
abbrev pub exactly : {A : Type 0} → Reader A → (List ℕ → A → Option Command) → List ℕ → List (List ℕ) → Option Command
exactly read command first words = option_and_then (command first) (option_and_then ended (read words))

-- on a cell
abbrev pub cell_commands : Table NamedCell
cell_commands = (codes "get", Get) ∷ (codes "unlink", Unlink) ∷ (codes "unmerge", Unmerge) ∷ []

unfoldable pub cell_command : List ℕ → NamedCell → Option Command
cell_command first cell = by_table cell_commands first cell

-- on a rectangle
abbrev pub area_commands : Table NamedArea
area_commands = (codes "merge", Merge) ∷ (codes "clear", Clear) ∷ (codes "clear-contents", ClearContents) ∷ (codes "clear-formatting", ClearFormatting) ∷ []

unfoldable pub area_command : List ℕ → NamedArea → Option Command
area_command first area = by_table area_commands first area

-- on a rectangle and a line
abbrev pub fill_commands : Table NamedFill
fill_commands = (codes "fill-rows", FillRows) ∷ (codes "fill-columns", FillColumns) ∷ []

unfoldable pub fill_command : List ℕ → NamedFill → Option Command
fill_command first fill = by_table fill_commands first fill

-- on rows or columns
abbrev pub lines_commands : Table NamedLines
lines_commands =
    (codes "insert-rows", InsertRows)
    ∷ (codes "insert-columns", InsertColumns)
    ∷ (codes "delete-rows", DeleteRows)
    ∷ (codes "delete-columns", DeleteColumns)
    ∷ (codes "hide-rows", λ lines. HideRows (span_of lines))
    ∷ (codes "show-rows", λ lines. ShowRows (span_of lines))
    ∷ (codes "hide-columns", λ lines. HideColumns (span_of lines))
    ∷ (codes "show-columns", λ lines. ShowColumns (span_of lines))
    ∷ []

unfoldable pub lines_command : List ℕ → NamedLines → Option Command
lines_command first lines = by_table lines_commands first lines

-- on rows or columns and a number
abbrev pub move_commands : Table NamedMove
move_commands =
    (codes "move-rows", MoveRows)
    ∷ (codes "move-columns", MoveColumns)
    ∷ (codes "width", λ move. Width (size_of move))
    ∷ (codes "height", λ move. Height (size_of move))
    ∷ []

unfoldable pub move_command : List ℕ → NamedMove → Option Command
move_command first move = by_table move_commands first move

-- on how many lines of a sheet
abbrev pub count_commands : Table NamedCount
count_commands = (codes "freeze-rows", FreezeRows) ∷ (codes "freeze-columns", FreezeColumns) ∷ []

unfoldable pub count_command : List ℕ → NamedCount → Option Command
count_command first named = by_table count_commands first named

-- on a sheet
abbrev pub sheet_commands : Table ℕ
sheet_commands = (codes "duplicate-sheet", DuplicateSheet) ∷ (codes "delete-sheet", DeleteSheet) ∷ (codes "hide-sheet", HideSheet) ∷ (codes "unhide-sheet", UnhideSheet) ∷ []

unfoldable pub sheet_command : List ℕ → ℕ → Option Command
sheet_command first sheet = by_table sheet_commands first sheet

-- words that begin commands, and how the words behind each are read
abbrev pub Readers : Type 0
Readers = List (List ℕ × (List (List ℕ) → Option Command))

-- the command that words are by such readers: the first is that of an entry, and the others are read as it says
abbrev pub by_reader : Readers → List ℕ → List (List ℕ) → Option Command
by_reader readers first words = option_and_then (λ entry. entry.1 words) (find (λ entry. bytes_eq entry.0 first) readers)

-- a command without words behind it
abbrev pub alone : Command → List (List ℕ) → Option Command
alone command words = ended (command, words)

-- a command of its own form
abbrev pub only : {A : Type 0} → Reader A → (A → Command) → List (List ℕ) → Option Command
only read command words = option_map command (option_and_then ended (read words))

-- a command whose words are a text
abbrev pub only_text : (List ℕ → Command) → List (List ℕ) → Option Command
only_text command words = option_map command (unescaped (text_of words))

-- a command with these words and then a text
abbrev pub and_text : {A : Type 0} → Reader A → (A → List ℕ → Command) → List (List ℕ) → Option Command
and_text read command words = option_map (λ found. command found.0 found.1) (option_and_then with_text (read words))

-- each of its own form
abbrev pub single_commands : Readers
single_commands =
    (codes "new-sheet", alone NewSheet)
    ∷ (codes "undo", alone Undo)
    ∷ (codes "redo", alone Redo)
    ∷ (codes "sync", alone Sync)
    ∷ (codes "show", alone Show)
    ∷ (codes "move-sheet", only sheet_move_words MoveSheet)
    ∷ (codes "rule-delete", only rule_words RuleDelete)
    ∷ (codes "rule-swap", only swap_words RuleSwap)
    ∷ (codes "color", only color_words SheetColor)
    ∷ (codes "grid", only grid_words GridLines)
    ∷ (codes "theme", only theme_words ThemeColors)
    ∷ (codes "make", only run_words Make)
    ∷ []

unfoldable pub single_command : List ℕ → List (List ℕ) → Option Command
single_command first words = by_reader single_commands first words

-- with a text
abbrev pub text_commands : Readers
text_commands =
    (codes "set", and_text cell_words Set)
    ∷ (codes "link", and_text cell_words Link)
    ∷ (codes "array", and_text area_words Array)
    ∷ (codes "rule", and_text area_words Rule)
    ∷ (codes "style", and_text path_words Style)
    ∷ (codes "rename-sheet", and_text sheet_word RenameSheet)
    ∷ (codes "name", and_text name_words Name)
    ∷ (codes "name-update", and_text update_words NameUpdate)
    ∷ (codes "title", only_text Title)
    ∷ []

unfoldable pub text_command : List ℕ → List (List ℕ) → Option Command
text_command first words = by_reader text_commands first words

-- with a name or a word that the workbook keeps
abbrev pub word_commands : Readers
word_commands =
    (codes "name-delete", only name_words NameDelete)
    ∷ (codes "locale", only (word name_of) Locale)
    ∷ (codes "zone", only (word name_of) Zone)
    ∷ (codes "language", only (word name_of) Language)
    ∷ []

unfoldable pub word_command : List ℕ → List (List ℕ) → Option Command
word_command first words = by_reader word_commands first words

-- ---- lines

-- on cells or rectangles, and on rows, columns or sheets
unfoldable pub place_command : List ℕ → List (List ℕ) → Option Command
place_command first words =
    option_or (exactly cell_words cell_command first words) (option_or (exactly area_words area_command first words) (exactly fill_words fill_command first words))

unfoldable pub line_command : List ℕ → List (List ℕ) → Option Command
line_command first words =
    option_or (exactly lines_words lines_command first words) (option_or (exactly move_words move_command first words) (exactly count_words count_command first words))

-- the command that words are: that of the one table which has such words
abbrev pub from_words : List (List ℕ) → Option Command
from_words [] = None
from_words (first ∷ words) =
    option_or (text_command first words)
    (option_or (place_command first words)
    (option_or (line_command first words)
    (option_or (exactly sheet_word sheet_command first words)
    (option_or (single_command first words) (word_command first words)))))

-- the command that a line is: its words are parted by single spaces
abbrev pub command_of : List ℕ → Option Command
command_of line = if is_utf8 line then from_words (parts_at 32 line) else None
