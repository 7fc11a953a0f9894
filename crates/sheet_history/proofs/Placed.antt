-- Corners of formulas are inside the sheet: in a well-formed workbook, and where an entry that fits is put.
use Rattle.std.proofs.Common.{◌≡◌, ℕ, Bool, true, false, cond, ◌&&◌, List, [], ◌∷◌, Option, Some, None, Result, Ok, Err, refl, ap, sym, subst, ◌∙◌}
use Rattle.std.specs.Prelude.{IfSome, OnOk, ◌==◌, is_some, length}
use Rattle.std.specs.List.{AllByRecursion, list_all}
use Rattle.std.specs.Option.{option_map_or}
use Rattle.std.proofs.lemmas.List.Elements.{All-from_recursion}
use Rattle.std.specs.Ordering.{eq_by_cmp}
use Rattle.std.specs.FinMap.{get}
use Rattle.base_values.specs.declared.EditError.{EditError}
use Rattle.base_values.specs.declared.Position.{Position}
use Rattle.base_values.specs.Answers.{Edits}
use Rattle.base_values.specs.Places.{position_cmp, is_place}
use Rattle.base_values.specs.laws.KeyMap.{get-with_entry}
use Rattle.base_values.specs.laws.Places.{position_total, exact_positions}
use Rattle.base_maps.specs.laws.Keys.{one_key}
use Rattle.format_rules.specs.declared.ConditionalFormatting.{ConditionalFormatting}
use Rattle.format_rules.specs.Fitting.{RuleInside, has_fitting_trees, has_parts}
use Rattle.format_rules.specs.laws.FittingLaws.{rule_inside}
use Rattle.rule_edits.specs.declared.RuleChange.{RuleChange}
use Rattle.rule_edits.specs.RuleChanges.{change_goes, comes_fitting, has_place, is_change, may_stand}
use Rattle.rule_edits.specs.laws.Lists.{each_later}
use Rattle.line_map.specs.Rules.{RulesInside}
use Rattle.sheet_grid.specs.declared.Cell.{Cell}
use Rattle.sheet_grid.specs.laws.FittingCells.{entry_fits_at}
use Rattle.sheet_grid.specs.Sheet.{Sheet, with_cell}
use Rattle.sheet_grid.specs.Book.{Book}
use Rattle.sheet_rules.specs.laws.EntryLaws.{both}
use Rattle.sheet_rules.specs.laws.WellFormedLaws.{well_formed_parts, cells_fit_from_trees}
use Rattle.sheet_rules.specs.Occupied.{have_merges}
use Rattle.sheet_rules.specs.WellFormed.{have_trees, IsWellFormed}
use Rattle.sheet_ids.specs.Ids.{sheet_of}
use Rattle.sheet_lines.specs.Sheets.{IsPlacedCell, IsPlacedSheet, IsPlacedBook}
use Rattle.book_sheets.specs.laws.Placed.{placed_cell, merges_are_inside}
use Rattle.sheet_history.specs.Entries.{EntryKey, EntryValue, cell_stands_at, value_fits, setting_of, sheet_id_of, with_sheet_entry, with_changed, entry_placed, entry_accepted, put_entry, accepts}
use Rattle.sheet_history.specs.Entries.EntryKey.{CellKey, LinkKey, MergesKey, FieldKey, AttrKey}
use Rattle.sheet_history.specs.Entries.EntryValue.{CellValue, LinkValue, MergesValue, FieldValue, AttrValue}
use Rattle.sheet_history.specs.declared.diff.LineAxis.TheVariants.{Rows, Columns}
use Rattle.sheet_history.specs.declared.field.SheetField.{SheetField}
use Rattle.sheet_history.specs.declared.field.SheetField.TheVariants as value
use Rattle.sheet_history.specs.Fields.{Field, with_field}
use Rattle.sheet_history.specs.Fields.Field.{ColorField, StateField, GridField, FrozenRowsField, FrozenColumnsField}
use Rattle.sheet_history.specs.Diffs.{put_in}
use Rattle.sheet_history.specs.RuleDiffs.{rule_put, takes_change, with_rules_changed}
use Rattle.sheet_history.specs.laws.RuleDiffLaws.{rule_put-done}
use Rattle.sheet_history.specs.laws.StandingRules.{has_standing_rules, rules_stand}
use Rattle.sheet_history.specs.laws.EntryLaws.{decide, sheets-with_value}
use Rattle.sheet_history.specs.laws.SoundEntries.{sheet_merges_inside}
use Rattle.sheet_history.specs.laws.TestedLaws.{put_in-done}
use Rattle.sheet_history.specs.declared.setting.Setting.{Setting}
use Rattle.sheet_history.specs.declared.setting.Setting.TheVariants as setting
use Rattle.sheet_history.specs.Settings.{SettingKind, with_setting}

-- rules that may stand are inside the sheet
rules_are_inside : (rules : List ConditionalFormatting) → list_all may_stand rules ≡ true → RulesInside rules
rules_are_inside rules all = All-from_recursion RuleInside rules (go rules all)
  where
    go : (xs : List ConditionalFormatting) → list_all may_stand xs ≡ true → AllByRecursion RuleInside xs
    go [] each = tt
    go (x ∷ xs) each =
        let own = both (may_stand x) (list_all may_stand xs) each in
        let parts = both (has_parts x) (has_fitting_trees x) own.0 in
        (rule_inside x parts.0 parts.1, go xs own.1)

placed_sheet : (sheet : Sheet) → have_trees sheet ≡ true → have_merges sheet ≡ true → list_all may_stand sheet.formattings ≡ true → IsPlacedSheet sheet
placed_sheet sheet trees merges stand = record {
  cells = λ place cell found. placed_cell place cell (sym (ap (entry_fits_at place) found) ∙ cells_fit_from_trees sheet trees place);
  merges = merges_are_inside sheet.merges (sheet_merges_inside sheet merges);
  formattings = rules_are_inside sheet.formattings stand;
}

placed_sheets : (sheets : List Sheet) → list_all have_trees sheets ≡ true → list_all have_merges sheets ≡ true → list_all has_standing_rules sheets ≡ true → AllByRecursion IsPlacedSheet sheets
placed_sheets [] trees merges stand = tt
placed_sheets (sheet ∷ sheets) trees merges stand =
    let own = both (have_trees sheet) (list_all have_trees sheets) trees in
    let apart = both (have_merges sheet) (list_all have_merges sheets) merges in
    let rules = both (has_standing_rules sheet) (list_all has_standing_rules sheets) stand in
    (placed_sheet sheet own.0 apart.0 rules.0, placed_sheets sheets own.1 apart.1 rules.1)

-- of a well-formed workbook
pub placed_by_rules : (book : Book) → IsWellFormed book → IsPlacedBook book
placed_by_rules book rules = let parts = well_formed_parts book rules in placed_sheets book.worksheets parts.trees parts.merges (rules_stand book rules)

placed-put : (sheet : Sheet) (place : Position) (entry : Option Cell) → entry_fits_at place entry ≡ true → IsPlacedSheet sheet → IsPlacedSheet (with_cell sheet place entry)
placed-put sheet place entry fits all = record {
  cells = λ q cell found. go q cell (eq_by_cmp position_cmp q place) refl (sym (get-with_entry position_total sheet.cells place entry q) ∙ found);
  merges = all.merges;
  formattings = all.formattings;
}
  where
    go : (q : Position) (cell : Cell) (b : Bool) → eq_by_cmp position_cmp q place ≡ b → cond b entry (get sheet.cells q) ≡ Some cell → IsPlacedCell q cell
    go q cell true same it = placed_cell q cell (sym (λ i. entry_fits_at (sym (one_key position_cmp position_total exact_positions q place same) i) (it i)) ∙ fits)
    go q cell false other it = all.cells q cell it

fits_there : (place : Position) (entry : Option Cell) → cell_stands_at place entry ≡ true → entry_fits_at place entry ≡ true
fits_there place None fits = refl
fits_there place (Some cell) fits = (both _ _ fits).0

placed_field : (s : Sheet) (field : Field) (v : SheetField) → IsPlacedSheet s → IsPlacedSheet (with_field field v s)
placed_field s ColorField (value.Color v) all = record { cells = all.cells; merges = all.merges; formattings = all.formattings }
placed_field s StateField (value.State v) all = record { cells = all.cells; merges = all.merges; formattings = all.formattings }
placed_field s GridField (value.GridLines v) all = record { cells = all.cells; merges = all.merges; formattings = all.formattings }
placed_field s FrozenRowsField (value.FrozenRows v) all = record { cells = all.cells; merges = all.merges; formattings = all.formattings }
placed_field s FrozenColumnsField (value.FrozenColumns v) all = record { cells = all.cells; merges = all.merges; formattings = all.formattings }
placed_field s _ _ all = all

-- of a sheet with an entry that fits
placed_entry : (s : Sheet) (k : EntryKey) (v : EntryValue) → value_fits k v ≡ true → IsPlacedSheet s → IsPlacedSheet (with_sheet_entry k v s)
placed_entry s (CellKey id place) (CellValue entry) fits all = placed-put s place entry (fits_there place entry (both (is_place place) (cell_stands_at place entry) fits).1) all
placed_entry s (LinkKey id place) (LinkValue entry) fits all = record { cells = all.cells; merges = all.merges; formattings = all.formattings }
placed_entry s (MergesKey id) (MergesValue merges) fits all = record { cells = all.cells; merges = merges_are_inside merges fits; formattings = all.formattings }
placed_entry s (FieldKey id field) (FieldValue v) fits all = placed_field s field v all
placed_entry s (AttrKey id Rows line) (AttrValue entry) fits all = record { cells = all.cells; merges = all.merges; formattings = all.formattings }
placed_entry s (AttrKey id Columns line) (AttrValue entry) fits all = record { cells = all.cells; merges = all.merges; formattings = all.formattings }
placed_entry s _ _ fits all = absurd (let never : false ≡ true = fits in cc)

each_changed : (P : Sheet → Type 0) (f : Sheet → Sheet) → ((s : Sheet) → P s → P (f s)) → (id : ℕ) (ss : List Sheet) → AllByRecursion P ss → AllByRecursion P (with_changed id f ss)
each_changed P f keeps id [] all = tt
each_changed P f keeps id (s ∷ ss) all =
    decide (s.id == id)
    (λ hit. subst (λ b. AllByRecursion P (cond b (f s ∷ ss) (s ∷ with_changed id f ss))) (sym hit) (keeps s all.0, all.1))
    (λ miss. subst (λ b. AllByRecursion P (cond b (f s ∷ ss) (s ∷ with_changed id f ss))) (sym miss) (all.0, each_changed P f keeps id ss all.1))

placed_where : (o : Option SettingKind) (book : Book) (k : EntryKey) (v : EntryValue) → IsPlacedBook book → entry_accepted o k v book ≡ true → IsPlacedBook (entry_placed o k v book)
placed_where None book k v all accepted =
    let fits = (both (is_some (sheet_of book (sheet_id_of k))) (value_fits k v) accepted).1 in
    each_changed IsPlacedSheet (with_sheet_entry k v) (λ s placed. placed_entry s k v fits placed) (sheet_id_of k) book.worksheets all
placed_where (Some kind) book k v all accepted = subst (AllByRecursion IsPlacedSheet) (sym (sheets-with_value kind v book)) all

-- of a workbook in which an entry is put
pub put_in-placed : (at : ℕ) (book : Book) (k : EntryKey) (v : EntryValue) (next : Book) → IsPlacedBook book → put_in at book k v ≡ Ok next → IsPlacedBook next
unfolding accepts put_entry
put_in-placed at book k v next all is =
    let done = put_in-done at book k v next is in
    subst IsPlacedBook done.1 (placed_where (setting_of k) book k v all done.0)

-- so it is after a call that puts one
pub edit_placed : (at : ℕ) (book : Book) (k : EntryKey) (v : EntryValue) (next : Book) (result : Result (Unit {0}) EditError) → IsPlacedBook book → Edits result book next (put_in at book k v) → OnOk result (IsPlacedBook next)
edit_placed at book k v next (Ok done) all edits = put_in-placed at book k v next all edits.done
edit_placed at book k v next (Err error) all edits = tt

-- the rule that comes is inside the sheet
comes_inside : (new : Option ConditionalFormatting) → option_map_or may_stand new true ≡ true → IfSome new RuleInside
comes_inside None fits = tt
comes_inside (Some formatting) fits = let parts = both (has_parts formatting) (has_fitting_trees formatting) fits in rule_inside formatting parts.0 parts.1

fitting_new : (change : RuleChange) (count : ℕ) → change_goes change count ≡ true → comes_fitting change ≡ true
unfolding change_goes
fitting_new change count goes = (both (is_change change && has_place change count) (comes_fitting change) goes).1

taken_fits : (change : RuleChange) (o : Option Sheet) → takes_change change o ≡ true → comes_fitting change ≡ true
taken_fits change None takes = absurd (let never : false ≡ true = takes in cc)
taken_fits change (Some sheet) takes = fitting_new change (length sheet.formattings) takes

-- of a workbook in which a change of rules is made
rule_put-placed : (at id : ℕ) (change : RuleChange) (book next : Book) → IsPlacedBook book → rule_put at id change book ≡ Ok next → IsPlacedBook next
rule_put-placed at id change book next all is =
    let done = rule_put-done at id change book next is in
    let fits = comes_inside change.new (taken_fits change (sheet_of book id) done.0) in
    subst IsPlacedBook done.1 (each_changed IsPlacedSheet (with_rules_changed change)
    (λ s placed. record { cells = placed.cells; merges = placed.merges; formattings = each_later RuleInside change s.formattings placed.formattings fits }) id book.worksheets all)

-- so it is after a call that makes one
pub rule_placed : (at id : ℕ) (change : RuleChange) (book next : Book) (result : Result (Unit {0}) EditError) → IsPlacedBook book → Edits result book next (rule_put at id change book) → OnOk result (IsPlacedBook next)
rule_placed at id change book next (Ok done) all edits = rule_put-placed at id change book next all edits.done
rule_placed at id change book next (Err error) all edits = tt

-- a workbook with another setting has the same sheets
setting_sheets : (setting : Setting) (book : Book) → (with_setting setting book).worksheets ≡ book.worksheets
setting_sheets (setting.Theme theme) book = refl
setting_sheets (setting.Name name) book = refl
setting_sheets (setting.Locale locale) book = refl
setting_sheets (setting.Zone zone) book = refl

-- so it is after a call that makes one
pub setting_placed : (one : Setting) (book next : Book) (result : Result (Unit {0}) EditError) → IsPlacedBook book → Edits result book next (Ok (with_setting one book))
    → OnOk result (IsPlacedBook next)
setting_placed one book next (Ok done) all edits =
    let same : with_setting one book ≡ next = (let is : ◌≡◌ {A = Result Book EditError} (Ok (with_setting one book)) (Ok next) = edits.done in cc) in
    subst IsPlacedBook same (subst (AllByRecursion IsPlacedSheet) (sym (setting_sheets one book)) all)
setting_placed one book next (Err error) all edits = tt
