-- What every command that is read fits.
use Rattle.std.proofs.Common.{ℕ, ℤ, pos, ◌^◌, ◌<◌, ◌≤ℤ◌, w32}
use Rattle.std.specs.Prelude.{FitsSigned, IfSome}
use Rattle.std.specs.Str.{IsUtf8}
use Rattle.base_axis.specs.declared.MergedCell.{MergedCell}
use Rattle.script_lines.specs.declared.command.NamedCell.{NamedCell}
use Rattle.script_lines.specs.declared.command.NamedArea.{NamedArea}
use Rattle.script_lines.specs.declared.command.NamedLines.{NamedLines}
use Rattle.script_lines.specs.declared.command.NamedMove.{NamedMove}
use Rattle.base_styles.specs.declared.Color.{Color}
use Rattle.base_styles.specs.declared.Color.TheVariants.{Rgb}
use Rattle.base_styles.specs.declared.RgbColor.{RgbColor}
use Rattle.base_styles.specs.declared.Theme.{Theme}
use Rattle.script_lines.specs.declared.command.NamedSheetMove.{NamedSheetMove}
use Rattle.script_lines.specs.declared.command.NamedColor.{NamedColor}
use Rattle.script_lines.specs.declared.command.NamedGrid.{NamedGrid}
use Rattle.script_lines.specs.declared.command.NamedName.{NamedName}
use Rattle.script_lines.specs.declared.command.NamedPath.{NamedPath}
use Rattle.script_lines.specs.declared.command.NamedUpdate.{NamedUpdate}
use Rattle.script_lines.specs.declared.command.NamedSpan.{NamedSpan}
use Rattle.script_lines.specs.declared.command.NamedSize.{NamedSize}
use Rattle.script_lines.specs.declared.command.NamedFill.{NamedFill}
use Rattle.script_lines.specs.declared.command.NamedCount.{NamedCount}
use Rattle.script_lines.specs.declared.command.NamedRule.{NamedRule}
use Rattle.script_lines.specs.declared.command.NamedSwap.{NamedSwap}
use Rattle.script_lines.specs.declared.command.NamedRun.{NamedRun}
use Rattle.script_lines.specs.declared.command.Command.{Command}
use Rattle.script_lines.specs.declared.command.Command.TheVariants.{Set, Get, Array, Link, Unlink, Merge, Unmerge, InsertRows, InsertColumns, DeleteRows, DeleteColumns, MoveRows, MoveColumns, NewSheet, DuplicateSheet, DeleteSheet, MoveSheet, RenameSheet, HideSheet, UnhideSheet, SheetColor, GridLines, Name, NameUpdate, NameDelete, Undo, Redo, Sync, Show, Width, Height, HideRows, ShowRows, HideColumns, ShowColumns, FreezeRows, FreezeColumns, Style, Clear, ClearContents, ClearFormatting, Title, ThemeColors, Locale, Zone, Language, FillRows, FillColumns, Rule, RuleDelete, RuleSwap, Make}

-- a row and a column that letters and digits can name
pub record IsNamed (row column : ℤ) : Type 0 where
  pub row_low : pos 0 ≤ℤ row
  pub row_high : row ≤ℤ pos 9999999
  pub column_low : pos 1 ≤ℤ column
  pub column_high : column ≤ℤ pos 18278

-- an area whose corners letters and digits can name
pub record IsNamedArea (area : MergedCell) : Type 0 where
  pub first : IsNamed area.row area.column
  pub wide : pos 1 ≤ℤ area.width
  pub width : area.width ≤ℤ pos 18278
  pub high : pos 1 ≤ℤ area.height
  pub height : area.height ≤ℤ pos 10000000

-- numbers that a line can name
abbrev pub CellFits : NamedCell → Type 0
CellFits cell = (cell.sheet < 2 ^ 32) × IsNamed cell.row cell.column

abbrev pub AreaFits : NamedArea → Type 0
AreaFits area = (area.sheet < 2 ^ 32) × IsNamedArea area.area

abbrev pub LinesFit : NamedLines → Type 0
LinesFit lines = (lines.sheet < 2 ^ 32) × FitsSigned w32 lines.first × FitsSigned w32 lines.count

abbrev pub MoveFits : NamedMove → Type 0
MoveFits move = (move.sheet < 2 ^ 32) × FitsSigned w32 move.first × FitsSigned w32 move.count × FitsSigned w32 move.delta

abbrev pub SpanFits : NamedSpan → Type 0
SpanFits span = (span.sheet < 2 ^ 32) × FitsSigned w32 span.first × FitsSigned w32 span.last

abbrev pub SizeFits : NamedSize → Type 0
SizeFits named = (named.sheet < 2 ^ 32) × FitsSigned w32 named.first × FitsSigned w32 named.last × FitsSigned w32 named.size

abbrev pub FillFits : NamedFill → Type 0
FillFits named = (named.sheet < 2 ^ 32) × IsNamedArea named.area × FitsSigned w32 named.to

abbrev pub CountFits : NamedCount → Type 0
CountFits named = (named.sheet < 2 ^ 32) × FitsSigned w32 named.count

abbrev pub SheetFits : ℕ → Type 0
SheetFits sheet = sheet < 2 ^ 32

abbrev pub SheetMoveFits : NamedSheetMove → Type 0
SheetMoveFits move = SheetFits move.from × SheetFits move.to

-- indexes that 32 bits hold
abbrev pub RuleFits : NamedRule → Type 0
RuleFits named = SheetFits named.sheet × (named.index < 2 ^ 32)

abbrev pub SwapFits : NamedSwap → Type 0
SwapFits named = SheetFits named.sheet × (named.index_a < 2 ^ 32) × (named.index_b < 2 ^ 32)

-- a seed that 64 bits hold, and a number of commands that a line may draw
abbrev pub RunFits : NamedRun → Type 0
RunFits run = (run.seed < 2 ^ 64) × (run.count < 100001)

-- a colour whose parts are bytes
abbrev pub IsNamedColor : Color → Type 0
IsNamedColor (Rgb red green blue) = (red < 2 ^ 8) × (green < 2 ^ 8) × (blue < 2 ^ 8)
IsNamedColor color = Unit {0}

abbrev pub ColorFits : NamedColor → Type 0
ColorFits named = SheetFits named.sheet × IsNamedColor named.color

abbrev pub GridFits : NamedGrid → Type 0
GridFits named = SheetFits named.sheet

-- a scope that 32 bits hold, and a name in UTF-8
abbrev pub NameFits : NamedName → Type 0
NameFits name = IfSome name.scope SheetFits × IsUtf8 name.name

-- a rectangle whose numbers 32 bits hold, and a path in UTF-8
abbrev pub PathFits : NamedPath → Type 0
PathFits named = AreaFits named.area × IsUtf8 named.path

abbrev pub UpdateFits : NamedUpdate → Type 0
UpdateFits update = NameFits update.old × NameFits update.new

-- parts that are bytes
abbrev pub PartsFit : RgbColor → Type 0
PartsFit color = (color.red < 2 ^ 8) × (color.green < 2 ^ 8) × (color.blue < 2 ^ 8)

-- a theme whose colours have such parts
pub record ThemeFits (theme : Theme) : Type 0 where
  pub light1 : PartsFit theme.light1
  pub dark1 : PartsFit theme.dark1
  pub light2 : PartsFit theme.light2
  pub dark2 : PartsFit theme.dark2
  pub accent1 : PartsFit theme.accent1
  pub accent2 : PartsFit theme.accent2
  pub accent3 : PartsFit theme.accent3
  pub accent4 : PartsFit theme.accent4
  pub accent5 : PartsFit theme.accent5
  pub accent6 : PartsFit theme.accent6
  pub hyperlink : PartsFit theme.hyperlink
  pub followed_hyperlink : PartsFit theme.followed_hyperlink

-- a command with such numbers, and with texts in UTF-8
abbrev pub CommandFits : Command → Type 0
CommandFits (Set cell text) = CellFits cell × IsUtf8 text
CommandFits (Get cell) = CellFits cell
CommandFits (Array area text) = AreaFits area × IsUtf8 text
CommandFits (Link cell text) = CellFits cell × IsUtf8 text
CommandFits (Unlink cell) = CellFits cell
CommandFits (Merge area) = AreaFits area
CommandFits (Unmerge cell) = CellFits cell
CommandFits (InsertRows lines) = LinesFit lines
CommandFits (InsertColumns lines) = LinesFit lines
CommandFits (DeleteRows lines) = LinesFit lines
CommandFits (DeleteColumns lines) = LinesFit lines
CommandFits (MoveRows move) = MoveFits move
CommandFits (MoveColumns move) = MoveFits move
CommandFits (Width named) = SizeFits named
CommandFits (Height named) = SizeFits named
CommandFits (HideRows span) = SpanFits span
CommandFits (ShowRows span) = SpanFits span
CommandFits (HideColumns span) = SpanFits span
CommandFits (ShowColumns span) = SpanFits span
CommandFits (FreezeRows named) = CountFits named
CommandFits (FreezeColumns named) = CountFits named
CommandFits (FillRows named) = FillFits named
CommandFits (FillColumns named) = FillFits named
CommandFits NewSheet = Unit {0}
CommandFits (DuplicateSheet sheet) = SheetFits sheet
CommandFits (DeleteSheet sheet) = SheetFits sheet
CommandFits (MoveSheet move) = SheetMoveFits move
CommandFits (RenameSheet sheet text) = SheetFits sheet × IsUtf8 text
CommandFits (HideSheet sheet) = SheetFits sheet
CommandFits (UnhideSheet sheet) = SheetFits sheet
CommandFits (SheetColor named) = ColorFits named
CommandFits (GridLines named) = GridFits named
CommandFits (Name name text) = NameFits name × IsUtf8 text
CommandFits (NameUpdate update text) = UpdateFits update × IsUtf8 text
CommandFits (NameDelete name) = NameFits name
CommandFits (Title text) = IsUtf8 text
CommandFits (ThemeColors theme) = ThemeFits theme
CommandFits (Locale text) = IsUtf8 text
CommandFits (Zone text) = IsUtf8 text
CommandFits (Language text) = IsUtf8 text
CommandFits Undo = Unit {0}
CommandFits Redo = Unit {0}
CommandFits Sync = Unit {0}
CommandFits Show = Unit {0}
CommandFits (Style named text) = PathFits named × IsUtf8 text
CommandFits (Clear area) = AreaFits area
CommandFits (ClearContents area) = AreaFits area
CommandFits (ClearFormatting area) = AreaFits area
CommandFits (Rule area text) = AreaFits area × IsUtf8 text
CommandFits (RuleDelete named) = RuleFits named
CommandFits (RuleSwap named) = SwapFits named
CommandFits (Make run) = RunFits run
