-- When a diff of lines is made, and when it is taken back.
use Rattle.std.proofs.Common.{ℕ, ℤ, ◌+ℤ◌, Bool, true, false, List, Option, Some, None, Result, Ok, Err}
use Rattle.std.specs.Prelude.{not, ◌&&◌, ◌==◌, is_none, int_le, int_lt, length, if◌then◌else◌}
use Rattle.std.specs.List.{list_all}
use Rattle.std.specs.Ordering.{nat_cmp}
use Rattle.std.specs.declared.cmp.Ordering.{Ordering}
use Rattle.std.specs.FinMap.{FinMap, entries}
use Rattle.base_values.specs.declared.EditError.{EditError}
use Rattle.base_values.specs.declared.EditError.TheVariants.{DiffRefused}
use Rattle.base_values.specs.declared.Position.{Position}
use Rattle.base_values.specs.Places.{is_line, is_place}
use Rattle.base_axis.specs.declared.MergedCell.{MergedCell}
use Rattle.base_axis.specs.Rectangles.{is_inside}
use Rattle.base_axis.specs.Along.{Along, rows, columns}
use Rattle.format_rules.specs.declared.ConditionalFormatting.{ConditionalFormatting}
use Rattle.format_rules.specs.Fitting.{has_parts}
use Rattle.line_edits.specs.declared.EditKind.{EditKind}
use Rattle.line_edits.specs.declared.EditKind.TheVariants.{Insert, Delete, Move}
use Rattle.line_edits.specs.Edit.{image_at, is_valid, opposite_of}
use Rattle.line_edits.specs.Moves.{place_image}
use Rattle.sheet_grid.specs.Arrays.{array_at}
use Rattle.sheet_grid.specs.declared.Cell.{Cell}
use Rattle.sheet_grid.specs.Sheet.{Sheet}
use Rattle.sheet_grid.specs.Book.{Book}
use Rattle.sheet_lines.specs.declared.KeptLines.{KeptLines}
use Rattle.sheet_ids.specs.Ids.{sheet_of}
use Rattle.sheet_lines.specs.Followed.{book_followed}
use Rattle.sheet_lines.specs.Back.{book_back}
use Rattle.book_sheets.specs.SheetDiffs.{is_inside_if_any, cells_fit}
use Rattle.rule_edits.specs.RuleChanges as rule_changes
use Rattle.line_map.specs.Rules.{are_there}
use Rattle.book_names.specs.RenameDiffs.{formulas_stand, stand_on_places}
use Rattle.sheet_history.specs.declared.diff.LineAxis.{LineAxis}
use Rattle.sheet_history.specs.declared.diff.LineAxis.TheVariants.{Rows, Columns}

-- the direction that an axis names
abbrev pub along_of : LineAxis → Along
along_of Rows = rows
along_of Columns = columns

-- a place that an insertion takes past the last line
abbrev pub is_pushed_past : Along → ℤ → ℤ → Position → Bool
is_pushed_past a first count place = int_le first (a.line place) && int_lt a.last (a.line place +ℤ count)

-- no cell of a sheet, with content or without, is pushed past the last line
unfoldable pub stays_inside : Along → EditKind → Sheet → Bool
stays_inside a (Insert first count) sheet = list_all (λ (entry : Position × Cell). not (is_pushed_past a first count entry.0)) (entries sheet.cells)
stays_inside a (Delete first count) sheet = true
stays_inside a (Move first count delta) sheet = true

-- there is the sheet, and none of its cells is
abbrev pub is_there_inside : Along → EditKind → Option Sheet → Bool
is_there_inside a e None = false
is_there_inside a e (Some sheet) = stays_inside a e sheet

-- a place of the sheet, or a line of the axis, that has no image
abbrev pub is_lost_place : Along → EditKind → Position → Bool
is_lost_place a e place = is_place place && is_none (place_image a (image_at a.last e) place)

abbrev pub is_lost_line : Along → EditKind → ℤ → Bool
is_lost_line a e line = is_line a.last line && is_none (image_at a.last e line)

-- every key of a map passes a test
abbrev pub all_keys : {K X : Type 0} {R : K → K → Ordering} → (K → Bool) → FinMap R X → Bool
all_keys test m = list_all (λ entry. test entry.0) (entries m)

-- each kept cell, link and line is inside the sheet, on a line without an image, and each kept tree at a place of the sheet
unfoldable pub stand_on_lost : Along → EditKind → KeptLines → Bool
stand_on_lost a e kept =
    (all_keys (is_lost_place a e) kept.cells && all_keys (is_lost_place a e) kept.links) && (all_keys (is_lost_line a e) kept.lines && stand_on_places kept.formulas)

-- each of the kept merges, if they are there, is inside the sheet
abbrev pub merges_inside : Option (List MergedCell) → Bool
merges_inside None = true
merges_inside (Some merges) = list_all is_inside merges

-- each kept conditional rule has a part, and its parts are inside the sheet
abbrev pub parts_inside : FinMap nat_cmp ConditionalFormatting → Bool
parts_inside formattings = list_all (λ (entry : ℕ × ConditionalFormatting). has_parts entry.1) (entries formattings)

-- each kept cell that is an array is inside the sheet, and so do each kept merge and the parts of each kept conditional rule
unfoldable pub are_kept_lines_inside : KeptLines → Bool
are_kept_lines_inside kept =
    list_all (λ (entry : Position × Cell). is_inside_if_any (array_at entry.0 entry.1.content)) (entries kept.cells) && merges_inside kept.merges && parts_inside kept.formattings

-- where a place of a sheet goes, which is the edited one or another one
unfoldable pub goes_on : Along → EditKind → ℕ → Sheet → Position → Option Position
goes_on a e id sheet place = if sheet.id == id then place_image a (image_at a.last e) place else Some place

-- each kept conditional rule may stand on a sheet
abbrev pub each_stands : FinMap nat_cmp ConditionalFormatting → Bool
each_stands formattings = list_all (λ (entry : ℕ × ConditionalFormatting). rule_changes.may_stand entry.1) (entries formattings)

-- the sheet is there, and each has the place of one of its rules
unfoldable pub formattings_stand : FinMap nat_cmp ConditionalFormatting → Option Sheet → Bool
formattings_stand formattings None = false
formattings_stand formattings (Some sheet) = are_there formattings (length sheet.formattings) && each_stands formattings

-- what is kept may stand where it stood
abbrev pub may_stand : Along → ℕ → EditKind → KeptLines → Book → Bool
may_stand a id e kept book = cells_fit kept.cells && formulas_stand (goes_on a e id) kept.formulas book && formattings_stand kept.formattings (sheet_of book id)

-- whether an edit of the sheet of an id can be made
abbrev pub goes_forward : Along → ℕ → EditKind → KeptLines → Book → Bool
goes_forward a id e kept book = is_valid a.last e && is_there_inside a e (sheet_of book id) && (stand_on_lost a e kept && are_kept_lines_inside kept)

-- whether it can be taken back
abbrev pub goes_back : Along → ℕ → EditKind → KeptLines → Book → Bool
goes_back a id e kept book =
    is_valid a.last e && is_there_inside a (opposite_of e) (sheet_of book id) && (stand_on_lost a e kept && are_kept_lines_inside kept) && may_stand a id e kept book

-- the workbook with the edit made, or the diff of that number is refused
unfoldable pub lines_forward : ℕ → Along → ℕ → EditKind → KeptLines → Book → Result Book EditError
lines_forward at a id e kept book = if goes_forward a id e kept book then Ok (book_followed a e id book) else Err (DiffRefused 0 at)

-- the workbook with the edit taken back, or the diff of that number is refused
unfoldable pub lines_back : ℕ → Along → ℕ → EditKind → KeptLines → Book → Result Book EditError
lines_back at a id e kept book = if goes_back a id e kept book then Ok (book_back a e id kept book) else Err (DiffRefused 0 at)
