-- The record of two well-formed workbooks can be encoded.
use Rattle.std.proofs.Common.{◌≡◌, ℕ, ℤ, true, false, List, [], ◌∷◌, map, Option, Some, None, is_some, refl, ap, ◌∙◌}
use Rattle.std.specs.Prelude.{IsTrue, IfSome, not}
use Rattle.std.proofs.Common.{Bool}
use Rattle.std.specs.List.{AllByRecursion}
use Rattle.std.proofs.lemmas.List.Elements.{recursion_from_All}
use Rattle.base_values.specs.declared.Position.{Position}
use Rattle.cell_content.specs.Fitting.{fits_at}
use Rattle.sheet_grid.specs.declared.Cell.{Cell}
use Rattle.sheet_grid.specs.declared.LineAttr.{LineAttr}
use Rattle.sheet_grid.specs.Lines.{is_plain}
use Rattle.base_values.specs.Places.{is_line, is_place}
use Rattle.sheet_grid.specs.Arrays.{array_at}
use Rattle.sheet_grid.specs.Book.{Book}
use Rattle.sheet_grid.specs.laws.FittingCells.{is_shallow_entry}
use Rattle.sheet_grid.specs.laws.FittingLaws.{shallow_entry}
use Rattle.sheet_rules.specs.WellFormed.{IsWellFormed}
use Rattle.sheet_rules.specs.laws.EntryLaws.{both}
use Rattle.sheet_ids.specs.Ids.{sheet_of}
use Rattle.sheet_history.specs.declared.Diff.{Diff}
use Rattle.sheet_history.specs.declared.Diff.TheVariants.{Cell as CellDiff, Link as LinkDiff, Merges as MergesDiff, Field as FieldDiff, Lines as LinesDiff, NewSheet as NewDiff, DuplicateSheet as CopyDiff, DeleteSheet as DeletionDiff, MoveSheet as MoveDiff, RenameSheet as RenameDiff, ChangeName as NameDiff, Attributes as AttrDiff, Setting as SettingDiff, Rule as RuleDiff}
use Rattle.sheet_history.specs.declared.LineAxis.{LineAxis}
use Rattle.sheet_history.specs.LineDiffs.{along_of}
use Rattle.sheet_history.specs.Diffs.{IsCanonicalDiff, IsCanonicalList}
use Rattle.book_sheets.specs.SheetDiffs.{is_inside_if_any}
use Rattle.sheet_history.specs.Entries.{cell_stands_at, is_stored, value_fits, accepts}
use Rattle.sheet_history.specs.Entries.EntryKey.{CellKey, AttrKey}
use Rattle.sheet_history.specs.Entries.EntryValue.{CellValue, AttrValue}
use Rattle.sheet_history.specs.Records.{Change, change_of, IsRecord}
use Rattle.sheet_history.specs.laws.BothWays.{AllFit}
use Rattle.sheet_history.specs.laws.SoundEntries.{entries_fit}
use Rattle.sheet_wire.specs.QueueBytes.{IsKnownDiff}
use Rattle.sheet_wire.specs.laws.Fitting.{known_diff}
use Rattle.open_book.specs.Encodable.{AreEncodable}

-- a cell that may stand at its place is not deep
shallow_standing : (place : Position) (entry : Option Cell) → cell_stands_at place entry ≡ true → IsTrue (is_shallow_entry entry)
shallow_standing place None stands = refl
shallow_standing place (Some cell) stands = shallow_entry place (Some cell) (both (fits_at place cell.content) (is_inside_if_any (array_at place cell.content)) stands).0

not_plain : (b : Bool) → not b ≡ true → b ≡ false
not_plain true h = absurd cc
not_plain false h = refl

-- an attribute that may stand is not plain
kept_standing : (entry : Option LineAttr) → is_stored entry ≡ true → IfSome entry (λ attr. is_plain attr ≡ false)
kept_standing None kept = tt
kept_standing (Some attr) kept = not_plain (is_plain attr) kept

module _ (w : Book) where
  shallow : (id : ℕ) (place : Position) (entry : Option Cell) → accepts w (CellKey id place) (CellValue entry) ≡ true → IsTrue (is_shallow_entry entry)
  unfolding accepts
  shallow id place entry accepted =
      let fits = (both (is_some (sheet_of w id)) (value_fits (CellKey id place) (CellValue entry)) accepted).1 in
      shallow_standing place entry (both (is_place place) (cell_stands_at place entry) fits).1

  known_line : (id : ℕ) (axis : LineAxis) (line : ℤ) (entry : Option LineAttr) → accepts w (AttrKey id axis line) (AttrValue entry) ≡ true → IfSome entry (λ attr. is_plain attr ≡ false)
  unfolding accepts
  known_line id axis line entry accepted =
      let fits = (both (is_some (sheet_of w id)) (value_fits (AttrKey id axis line) (AttrValue entry)) accepted).1 in
      kept_standing entry (both (is_line (along_of axis).last line) (is_stored entry) fits).1

  -- a diff whose values the workbook can take can be encoded
  known : (diff : Diff) (c : Change) → change_of diff ≡ Some c → accepts w c.0 c.1.1 ≡ true → accepts w c.0 c.1.0 ≡ true → IsCanonicalDiff diff → IsKnownDiff diff
  known (CellDiff id place old new) c is news olds kept =
      let same : ◌≡◌ {A = Change} (CellKey id place, (CellValue old, CellValue new)) c = cc in
      known_diff (CellDiff id place old new) kept
      (shallow id place old (ap (λ (x : Change). accepts w x.0 x.1.0) same ∙ olds), shallow id place new (ap (λ (x : Change). accepts w x.0 x.1.1) same ∙ news)) tt
  known (LinkDiff id place old new) c is news olds kept = tt
  known (MergesDiff id old new) c is news olds kept = tt
  known (FieldDiff id change) c is news olds kept = tt
  known (AttrDiff id axis line old new) c is news olds kept =
      let same : ◌≡◌ {A = Change} (AttrKey id axis line, (AttrValue old, AttrValue new)) c = cc in
      (known_line id axis line old (ap (λ (x : Change). accepts w x.0 x.1.0) same ∙ olds), known_line id axis line new (ap (λ (x : Change). accepts w x.0 x.1.1) same ∙ news))
  known (RuleDiff id change) c is news olds kept = absurd (cc)
  known (LinesDiff id axis edit lines) c is news olds kept = absurd (cc)
  known (NewDiff id index name) c is news olds kept = absurd (cc)
  known (CopyDiff source id index name) c is news olds kept = absurd (cc)
  known (DeletionDiff index sheet) c is news olds kept = absurd (cc)
  known (MoveDiff id from to) c is news olds kept = absurd (cc)
  known (RenameDiff id before after trees) c is news olds kept = absurd (cc)
  known (NameDiff change trees) c is news olds kept = absurd (cc)
  known (SettingDiff change) c is news olds kept = tt

  all_known : (list : List Diff) (changes : List Change) → map change_of list ≡ map Some changes → AllFit w changes → AllByRecursion IsCanonicalDiff list → AreEncodable list
  all_known [] [] is fit kept = tt
  all_known [] (c ∷ changes) is fit kept = absurd (cc)
  all_known (diff ∷ list) [] is fit kept = absurd (cc)
  all_known (diff ∷ list) (c ∷ changes) is fit kept =
      let one : change_of diff ≡ Some c = cc in
      let rest : map change_of list ≡ map Some changes = cc in
      (known diff c one fit.0 fit.1 kept.0, all_known list changes rest fit.2 kept.1)

pub record_encodable : (earlier later : Book) (list : List Diff) → IsWellFormed earlier → IsWellFormed later → IsRecord earlier later list → IsCanonicalList list → AreEncodable list
record_encodable earlier later list before after is kept =
    all_known earlier list is.changes is.made_of (entries_fit earlier later list before after is) (recursion_from_All IsCanonicalDiff list kept)
