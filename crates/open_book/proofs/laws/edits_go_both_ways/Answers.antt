use Rattle.std.proofs.Common.{◌≡◌, true, Ok, refl}
use Rattle.sheet_grid.specs.Book.{Book}
use Rattle.sheet_rules.specs.WellFormed.{IsWellFormed}
use Rattle.edit_plans.specs.Plans.{HasRecord}
use Rattle.edit_plans.specs.Edits.{Edit, IsGiven, changed, is_of_entries}
use Rattle.edit_plans.specs.Edits.Edit.{Input, ArrayInput, SetLink, Merge, Unmerge, Lines, MoveLines, AddSheet, CopySheet, DeleteSheet, MoveSheet, RenameSheet, ChangeNames, EditRules, SetField, SetSize, SetHidden, SetRangeStyle, ClearRange, ClearFormatting, PasteStyles, SetSetting, Fill}
use Rattle.open_book.specs.BothWays.{GoesBothWays}
use Rattle.open_book.proofs.EntrySteps.{of_entries, entries_both}
use Rattle.open_book.proofs.LineSteps.{lines_go_both_ways}
use Rattle.open_book.proofs.MoveSteps.{moves_go_both_ways}
use Rattle.open_book.proofs.SheetSteps.{sheets_both}
use Rattle.open_book.proofs.laws.edits_go_both_ways.Goals as goal

pub returns : goal.returns
returns c = go
  where
    by_record : (edit : Edit) (earlier later : Book) → is_of_entries edit ≡ true → IsWellFormed earlier → HasRecord earlier later → GoesBothWays edit earlier later
    by_record edit earlier later is rules it = entries_both edit (of_entries edit is) earlier later it.list rules it.rules it.exact

    by_law : (edit : Edit) (earlier later : Book) → is_of_entries edit ≡ true → IsWellFormed earlier → IsGiven edit → changed edit earlier ≡ Ok later → GoesBothWays edit earlier later
    by_law edit earlier later is rules given how = by_record edit earlier later is rules (c.edits_have_records.ensures edit earlier later is given rules how)

    go : (edit : Edit) (earlier later : Book) → IsWellFormed earlier → IsGiven edit → changed edit earlier ≡ Ok later → GoesBothWays edit earlier later
    go (Input index row column content feeds) earlier later rules given how = by_law (Input index row column content feeds) earlier later refl rules given how
    go (ArrayInput index r tree) earlier later rules given how = by_law (ArrayInput index r tree) earlier later refl rules given how
    go (SetLink index row column link) earlier later rules given how = by_law (SetLink index row column link) earlier later refl rules given how
    go (Merge index r) earlier later rules given how = by_law (Merge index r) earlier later refl rules given how
    go (Unmerge index row column) earlier later rules given how = by_law (Unmerge index row column) earlier later refl rules given how
    go (Lines index axis kind) earlier later rules given how =
        lines_go_both_ways index axis kind earlier later rules how
    go (MoveLines index axis first count delta) earlier later rules given how =
        moves_go_both_ways index axis first count delta earlier later rules how
    go AddSheet earlier later rules given how = sheets_both c.sheet_edits_go_both_ways.ensures AddSheet refl earlier later rules how
    go (CopySheet index) earlier later rules given how = sheets_both c.sheet_edits_go_both_ways.ensures (CopySheet index) refl earlier later rules how
    go (DeleteSheet index) earlier later rules given how = sheets_both c.sheet_edits_go_both_ways.ensures (DeleteSheet index) refl earlier later rules how
    go (MoveSheet from to) earlier later rules given how = sheets_both c.sheet_edits_go_both_ways.ensures (MoveSheet from to) refl earlier later rules how
    go (RenameSheet index name) earlier later rules given how = sheets_both c.sheet_edits_go_both_ways.ensures (RenameSheet index name) refl earlier later rules how
    go (ChangeNames edit) earlier later rules given how = sheets_both c.sheet_edits_go_both_ways.ensures (ChangeNames edit) refl earlier later rules how
    go (EditRules edit) earlier later rules given how = sheets_both c.sheet_edits_go_both_ways.ensures (EditRules edit) refl earlier later rules how
    go (SetSetting setting) earlier later rules given how = sheets_both c.sheet_edits_go_both_ways.ensures (SetSetting setting) refl earlier later rules how
    go (SetField index value) earlier later rules given how = by_law (SetField index value) earlier later refl rules given how
    go (SetSize index axis first last size) earlier later rules given how = by_law (SetSize index axis first last size) earlier later refl rules given how
    go (SetHidden index axis first last hidden) earlier later rules given how = by_law (SetHidden index axis first last hidden) earlier later refl rules given how
    go (SetRangeStyle index r path value) earlier later rules given how = by_law (SetRangeStyle index r path value) earlier later refl rules given how
    go (ClearRange index clearing r) earlier later rules given how = by_law (ClearRange index clearing r) earlier later refl rules given how
    go (ClearFormatting index r) earlier later rules given how = by_law (ClearFormatting index r) earlier later refl rules given how
    go (PasteStyles index r styles) earlier later rules given how = by_law (PasteStyles index r styles) earlier later refl rules given how
    go (Fill index axis source to language) earlier later rules given how = by_law (Fill index axis source to language) earlier later refl rules given how
