-- No edit of a workbook is refused as a diff is: that refusal is for what other copies send.
use Rattle.std.proofs.Common.{◌≢◌, ℕ, ℤ, Bool, true, false, List, Option, Some, None, Result, Ok, Err, subst}
use Rattle.std.specs.Prelude.{IfSome, if◌then◌else◌}
use Rattle.base_values.specs.declared.EditError.{EditError}
use Rattle.base_values.specs.declared.EditError.TheVariants.{DiffRefused, InvalidColumn, InvalidRow, StyleValue}
use Rattle.base_values.specs.declared.Position.{Position}
use Rattle.base_values.specs.Answers.{and_then, map_ok, ok_or}
use Rattle.base_values.specs.Places.{place_of}
use Rattle.base_axis.specs.declared.MergedCell.{MergedCell}
use Rattle.base_axis.specs.Along.{Along, outside}
use Rattle.base_tables.specs.declared.Language.{Language}
use Rattle.base_tables.specs.declared.Locale.{Locale}
use Rattle.base_styles.specs.declared.Style.{Style}
use Rattle.style_edits.specs.Updates.{updated_style}
use Rattle.formula_tree.specs.declared.Node.{Node}
use Rattle.cell_content.specs.declared.Content.{Content}
use Rattle.line_edits.specs.declared.EditKind.{EditKind}
use Rattle.line_edits.specs.declared.EditKind.TheVariants.{Insert, Delete, Move}
use Rattle.line_sizes.specs.declared.LineChange.{LineChange}
use Rattle.line_sizes.specs.declared.LineChange.TheVariants.{Hidden}
use Rattle.line_sizes.specs.LineChanges.{lines_from}
use Rattle.defined_names.specs.declared.DefinedName.{DefinedName}
use Rattle.format_rules.specs.declared.CfRule.{CfRule}
use Rattle.format_rules.specs.declared.ConditionalFormatting.{ConditionalFormatting}
use Rattle.sheet_grid.specs.declared.Link.{Link}
use Rattle.sheet_grid.specs.Lines.{size_of}
use Rattle.sheet_grid.specs.Merges.{merge_holding}
use Rattle.sheet_grid.specs.Sheet.{Sheet}
use Rattle.sheet_grid.specs.Book.{Book, sheet_at, sheet_edit}
use Rattle.sheet_naming.specs.NextIds.{next_id}
use Rattle.sheet_fill.specs.declared.FillRange.{FillRange}
use Rattle.sheet_fill.specs.FillRanges.{range_of}
use Rattle.sheet_fill.specs.Plans.{planned_in as fill_in}
use Rattle.sheet_fill.specs.Tiles.{range_tested}
use Rattle.sheet_actions.specs.Edited.{lines_edited}
use Rattle.sheet_actions.specs.Planned.{lines_planned, refusal_of, unless_refused}
use Rattle.sheet_history.specs.declared.LineAxis.{LineAxis}
use Rattle.sheet_history.specs.declared.LineAxis.TheVariants.{Rows, Columns}
use Rattle.sheet_history.specs.declared.SheetField.{SheetField}
use Rattle.sheet_history.specs.LineDiffs.{along_of}
use Rattle.range_styles.specs.declared.Clearing.{Clearing}
use Rattle.range_styles.specs.declared.StyleRange.{StyleRange}
use Rattle.range_styles.specs.Clearing.{clear_area}
use Rattle.range_styles.specs.Styled.{Accepts, StyleAt, planned_styles}
use Rattle.name_edits.specs.NameEdits.{NameEdit, free_name, known_place, name_added, name_at, name_change, name_goes, name_removed, name_updated, scope_id, update_goes, valid_name, with_formula}
use Rattle.name_edits.specs.NameEdits.NameEdit.{Add, Remove, Update}
use Rattle.rule_edits.specs.RuleEdits.{RuleEdit, checked_at, next_priority, rule_added, rule_at, rule_changes, rule_removed, rule_updated, rules_swapped, sheet_index_of, swapped_in_order}
use Rattle.rule_edits.specs.RuleEdits.RuleEdit.{Add as AddRule, Update as UpdateRule, Delete as DeleteRule, Swap as SwapRules}
use Rattle.edit_plans.specs.ArrayInputs.{array_area, array_put, free_area}
use Rattle.edit_plans.specs.Edits.{Edit, changed, grown_move}
use Rattle.edit_plans.specs.Edits.Edit.{Input, ArrayInput, SetLink, Merge, Unmerge, Lines, MoveLines, AddSheet, CopySheet, DeleteSheet, MoveSheet, RenameSheet, ChangeNames, EditRules, SetField, SetSize, SetHidden, SetRangeStyle, ClearRange, ClearFormatting, PasteStyles, SetSetting, Fill}
use Rattle.edit_plans.specs.Fills.{fill_made}
use Rattle.edit_plans.specs.Inputs.{free_place, input_place, input_put}
use Rattle.edit_plans.specs.LineEdits.{attrs_in, attrs_set}
use Rattle.edit_plans.specs.LineRecords.{size_change}
use Rattle.edit_plans.specs.Links.{link_set}
use Rattle.edit_plans.specs.Merging.{merge_made, merge_undone, merged_in, unmerged_at, unmerged_in}
use Rattle.edit_plans.specs.NamedEdits.{names_edited}
use Rattle.edit_plans.specs.RangeEdits.{cleared_in, error_or, formats_cleared, formats_in, inside_area, pasted_in, range_cleared, styles_in, styles_pasted, styles_set, update_refusal}
use Rattle.edit_plans.specs.RuleEdits.{rules_edited, rules_in}
use Rattle.edit_plans.specs.SheetEdits.{field_put, field_set, sheet_added, sheet_copied, sheet_deleted, sheet_named, sheet_taken, with_name}

-- ---- what is no such refusal

abbrev IsOther : EditError → Type 0
IsOther (DiffRefused entry diff) = ⊥
IsOther error = Unit {0}

abbrev Other : {T : Type 0} → Result T EditError → Type 0
Other (Ok value) = Unit {0}
Other (Err error) = IsOther error

then_other : {A B : Type 0} (r : Result A EditError) (f : A → Result B EditError) → Other r → ((value : A) → Other (f value)) → Other (and_then r f)
then_other (Ok value) f h g = g value
then_other (Err error) f h g = h

made_other : {A B : Type 0} (f : A → B) (r : Result A EditError) → Other r → Other (map_ok f r)
made_other f (Ok value) h = tt
made_other f (Err error) h = h

either_other : {A : Type 0} (b : Bool) (x y : Result A EditError) → Other x → Other y → Other (if b then x else y)
either_other true x y h k = h
either_other false x y h k = k

found_other : {A : Type 0} (error : EditError) (o : Option A) → IsOther error → Other (ok_or error o)
found_other error None h = h
found_other error (Some value) h = tt

ruleset steps = (then_other, made_other, either_other, found_other)

-- ---- places and sheets

place_other : (row column : ℤ) → Other (place_of row column)
unfolding place_of
place_other row column = search (steps)

side_other : (b : Bool) → IsOther (if b then InvalidRow else InvalidColumn)
side_other true = tt
side_other false = tt

outside_other : (a : Along) → IsOther (outside a)
outside_other a = side_other (a.of true false)

there_other : (book : Book) (index : ℕ) → Other (sheet_at book index)
there_other book index = search (steps)

edit_other : (book : Book) (index : ℕ) (edit : Sheet → Result Sheet EditError) → ((sheet : Sheet) → Other (edit sheet)) → Other (sheet_edit book index edit)
edit_other book index edit h = search (steps, there_other book index, h)

id_other : (ids : List ℕ) → Other (next_id ids)
id_other ids = search (steps)

-- ---- cells, links and merges

free_place_other : (sheet : Sheet) (place : Position) → Other (free_place sheet place)
free_place_other sheet place = search (steps)

input_place_other : (sheet : Sheet) (row column : ℤ) → Other (input_place sheet row column)
input_place_other sheet row column = then_other (place_of row column) (free_place sheet) (place_other row column) (free_place_other sheet)

input_other : (index : ℕ) (row column : ℤ) (content : Content) (feeds : ℕ) (book : Book) → Other (input_put index row column content feeds book)
unfolding input_put
input_other index row column content feeds book = search (edit_other, made_other, input_place_other)

free_area_other : (sheet : Sheet) (r : MergedCell) → Other (free_area sheet r)
free_area_other sheet r = search (steps)

array_area_other : (sheet : Sheet) (r : MergedCell) → Other (array_area sheet r)
array_area_other sheet r = then_other (place_of r.row r.column) (λ place. free_area sheet r) (place_other r.row r.column) (λ place. free_area_other sheet r)

array_other : (index : ℕ) (r : MergedCell) (tree : Node) (book : Book) → Other (array_put index r tree book)
unfolding array_put
array_other index r tree book = search (edit_other, made_other, array_area_other)

link_other : (index : ℕ) (row column : ℤ) (entry : Option Link) (book : Book) → Other (link_set index row column entry book)
unfolding link_set
link_other index row column entry book = search (edit_other, made_other, place_other)

merged_other : (r : MergedCell) (sheet : Sheet) → Other (merged_in r sheet)
merged_other r sheet = search (steps)

merge_other : (index : ℕ) (r : MergedCell) (book : Book) → Other (merge_made index r book)
unfolding merge_made
merge_other index r book = edit_other book index (merged_in r) (merged_other r)

unmerged_other : (sheet : Sheet) (place : Position) (o : Option MergedCell) → Other (unmerged_at sheet place o)
unmerged_other sheet place None = tt
unmerged_other sheet place (Some merge) = tt

unmerge_other : (index : ℕ) (row column : ℤ) (book : Book) → Other (merge_undone index row column book)
unfolding merge_undone
unmerge_other index row column book =
    edit_other book index (unmerged_in row column)
    (λ sheet. then_other (place_of row column) (λ place. unmerged_at sheet place (merge_holding sheet.merges place)) (place_other row column)
    (λ place. unmerged_other sheet place (merge_holding sheet.merges place)))

-- ---- lines

either_none : (b : Bool) (x y : Option EditError) → IfSome x IsOther → IfSome y IsOther → IfSome (if b then x else y) IsOther
either_none true x y h k = h
either_none false x y h k = k

refusal_other : (a : Along) (kind : EditKind) (sheet : Sheet) → IfSome (refusal_of a kind sheet) IsOther
unfolding refusal_of
refusal_other a (Insert first count) sheet = search (either_none, outside_other a)
refusal_other a (Delete first count) sheet = search (either_none, outside_other a)
refusal_other a (Move first count delta) sheet = search (either_none)

unless_other : {T : Type 0} (o : Option EditError) (value : T) → IfSome o IsOther → Other (unless_refused o value)
unless_other None value h = tt
unless_other (Some error) value h = h

planned_other : (a : Along) (kind : EditKind) (index : ℕ) (book : Book) → Other (lines_planned a kind index book)
planned_other a kind index book =
    then_other (sheet_at book index) (λ sheet. unless_refused (refusal_of a kind sheet) (sheet.id, kind)) (there_other book index)
    (λ sheet. unless_other (refusal_of a kind sheet) (sheet.id, kind) (refusal_other a kind sheet))

lines_other : (a : Along) (kind : EditKind) (index : ℕ) (book : Book) → Other (lines_edited a kind index book)
lines_other a kind index book = search (made_other, planned_other a kind index book)

move_other : (a : Along) (first count delta : ℤ) (index : ℕ) (book : Book)
    → Other (and_then (sheet_at book index) (λ sheet. lines_edited a (grown_move a first count delta sheet) index book))
move_other a first count delta index book =
    then_other (sheet_at book index) (λ sheet. lines_edited a (grown_move a first count delta sheet) index book) (there_other book index)
    (λ sheet. lines_other a (grown_move a first count delta sheet) index book)

span_other : (end first last : ℤ) → Other (lines_from end first last)
unfolding lines_from
span_other end first last = search (steps)

attrs_other : (index : ℕ) (axis : LineAxis) (first last : ℤ) (change : Result LineChange EditError) (book : Book) → Other change → Other (attrs_set index axis first last change book)
unfolding attrs_set
attrs_other index axis first last change book h =
    edit_other book index (attrs_in axis first last change) (λ sheet. search (then_other, made_other, span_other (along_of axis).last first last, h))

size_other : (size : ℤ) → Other (size_of size)
unfolding size_of
size_other size = search (steps)

size_change_other : (axis : LineAxis) (size : ℤ) → Other (size_change axis size)
size_change_other Rows size = search (made_other, size_other size)
size_change_other Columns size = search (made_other, size_other size)

-- ---- sheets

added_other : (book : Book) → Other (sheet_added book)
unfolding sheet_added
added_other book = search (made_other, id_other)

copied_other : (index : ℕ) (book : Book) → Other (sheet_copied index book)
unfolding sheet_copied
copied_other index book = search (then_other, made_other, there_other, id_other)

deleted_other : (index : ℕ) (book : Book) → Other (sheet_deleted index book)
unfolding sheet_deleted
deleted_other index book = search (then_other, either_other, there_other)

taken_other : (from to : ℕ) (book : Book) → Other (sheet_taken from to book)
unfolding sheet_taken
taken_other from to book = search (steps)

with_name_other : (name : List ℕ) (book : Book) (sheet : Sheet) → Other (with_name name book sheet)
with_name_other name book sheet = search (steps)

named_other : (index : ℕ) (name : List ℕ) (book : Book) → Other (sheet_named index name book)
unfolding sheet_named
named_other index name book = then_other (sheet_at book index) (with_name name book) (there_other book index) (with_name_other name book)

put_other : (value : SheetField) (sheet : Sheet) → Other (field_put value sheet)
put_other value sheet = search (steps)

field_other : (index : ℕ) (value : SheetField) (book : Book) → Other (field_set index value book)
unfolding field_set
field_other index value book = edit_other book index (field_put value) (put_other value)

-- ---- defined names

scope_other : (scope : Option ℕ) (book : Book) → Other (scope_id scope book)
scope_other None book = tt
scope_other (Some index) book = search (made_other, there_other book index)

free_name_other : (id : Option ℕ) (text : List ℕ) (taken : Bool) → Other (free_name id text taken)
free_name_other id text taken = search (steps)

known_other : (id : Option ℕ) (text : List ℕ) (names : List DefinedName) → Other (known_place id text names)
known_other id text names = search (steps)

name_at_other : (place : ℕ) (names : List DefinedName) → Other (name_at place names)
name_at_other place names = search (steps)

formula_other : (id : Option ℕ) (text : List ℕ) (tree : Node) → Other (with_formula id text tree)
formula_other id text tree = search (steps)

goes_other : (scope : Option ℕ) (text : List ℕ) (book : Book) → Other (name_goes scope text book)
unfolding name_goes
goes_other scope text book = search (then_other, scope_other, free_name_other)

update_goes_other : (scope : Option ℕ) (text : List ℕ) (new_scope : Option ℕ) (new_text : List ℕ) (book : Book) → Other (update_goes scope text new_scope new_text book)
unfolding update_goes
update_goes_other scope text new_scope new_text book = search (then_other, made_other, scope_other, known_other, free_name_other)

valid_other : (scope : Option ℕ) (text : List ℕ) (tree : Node) (book : Book) → Other (valid_name scope text tree book)
unfolding valid_name
valid_other scope text tree book = search (then_other, goes_other, formula_other)

name_change_other : (edit : NameEdit) (book : Book) → Other (name_change edit book)
unfolding name_added name_removed name_updated
name_change_other (Add scope text tree) book = search (made_other, valid_other)
name_change_other (Remove scope text) book = search (then_other, made_other, scope_other, known_other, name_at_other)
name_change_other (Update scope text new_scope new_text tree) book = search (then_other, made_other, update_goes_other, name_at_other, formula_other)

names_other : (edit : NameEdit) (book : Book) → Other (names_edited edit book)
unfolding names_edited
names_other edit book = search (made_other, name_change_other edit book)

-- ---- conditional rules

checked_other : (place : Option Position) (parts : List MergedCell) (rule : CfRule) → Other (checked_at place parts rule)
checked_other None parts rule = tt
checked_other (Some place) parts rule = search (steps)

priority_other : (rules : List ConditionalFormatting) → Other (next_priority rules)
priority_other rules = search (steps)

rule_at_other : (index : ℕ) (rules : List ConditionalFormatting) → Other (rule_at index rules)
rule_at_other index rules = search (steps)

swapped_other : (first second : ℕ) (rules : List ConditionalFormatting) → Other (swapped_in_order first second rules)
swapped_other first second rules = search (then_other, made_other, rule_at_other)

rule_changes_other : (edit : RuleEdit) (rules : List ConditionalFormatting) → Other (rule_changes edit rules)
unfolding rule_added rule_updated rule_removed rules_swapped
rule_changes_other (AddRule sheet parts rule) rules = search (then_other, made_other, checked_other, priority_other)
rule_changes_other (UpdateRule sheet index parts rule) rules = search (then_other, made_other, rule_at_other, checked_other)
rule_changes_other (DeleteRule sheet index) rules = search (made_other, rule_at_other)
rule_changes_other (SwapRules sheet a b) rules = search (made_other, swapped_other)

rules_other : (edit : RuleEdit) (book : Book) → Other (rules_edited edit book)
unfolding rules_edited
rules_other edit book = edit_other book (sheet_index_of edit) (rules_in edit) (λ sheet. search (made_other, rule_changes_other edit sheet.formattings))

-- ---- ranges

area_other : (r : MergedCell) → Other (inside_area r)
area_other r = search (steps)

updated_other : (style : Style) (path value : List ℕ) → Other (updated_style style path value)
updated_other style path value = search (then_other, found_other)

error_other : (r : Result Style EditError) → Other r → IsOther (error_or StyleValue r)
error_other (Ok style) h = tt
error_other (Err error) h = h

update_other : (path value : List ℕ) → IsOther (update_refusal path value)
update_other path value = search (error_other, updated_other)

styled_other : (range : StyleRange) (output : StyleAt) (accepts : Accepts) (refusal : EditError) (sheet : Sheet) → IsOther refusal → Other (planned_styles range output accepts refusal sheet)
unfolding planned_styles
styled_other range output accepts refusal sheet h = search (either_other, h)

styles_in_other : (r : MergedCell) (path value : List ℕ) (sheet : Sheet) → Other (styles_in r path value sheet)
styles_in_other r path value sheet = search (then_other, made_other, area_other, styled_other, update_other path value)

formats_in_other : (r : MergedCell) (sheet : Sheet) → Other (formats_in r sheet)
formats_in_other r sheet = search (then_other, made_other, area_other, styled_other)

pasted_in_other : (r : MergedCell) (styles : List (List Style)) (sheet : Sheet) → Other (pasted_in r styles sheet)
pasted_in_other r styles sheet = search (then_other, made_other, area_other, styled_other)

styles_other : (index : ℕ) (r : MergedCell) (path value : List ℕ) (book : Book) → Other (styles_set index r path value book)
unfolding styles_set
styles_other index r path value book = edit_other book index (styles_in r path value) (styles_in_other r path value)

formats_other : (index : ℕ) (r : MergedCell) (book : Book) → Other (formats_cleared index r book)
unfolding formats_cleared
formats_other index r book = edit_other book index (formats_in r) (formats_in_other r)

clear_area_other : (r : MergedCell) (sheet : Sheet) → Other (clear_area r sheet)
clear_area_other r sheet = search (steps)

cleared_other : (index : ℕ) (clearing : Clearing) (r : MergedCell) (book : Book) → Other (range_cleared index clearing r book)
unfolding range_cleared
cleared_other index clearing r book = edit_other book index (cleared_in clearing r) (λ sheet. search (made_other, clear_area_other r sheet))

pasted_other : (index : ℕ) (r : MergedCell) (styles : List (List Style)) (book : Book) → Other (styles_pasted index r styles book)
unfolding styles_pasted
pasted_other index r styles book = search (either_other, edit_other book index (pasted_in r styles) (pasted_in_other r styles))

-- ---- fills

range_of_other : (a : Along) (source : MergedCell) (to : ℤ) → Other (range_of a source to)
unfolding range_of
range_of_other a source to = search (steps, outside_other a)

tested_other : (a : Along) (f : FillRange) (sheet : Sheet) → Other (range_tested a f sheet)
unfolding range_tested
tested_other a f sheet = search (steps)

fill_in_other : (a : Along) (source : MergedCell) (to : ℤ) (locale : Locale) (language : Language) (sheet : Sheet) → Other (fill_in a source to locale language sheet)
fill_in_other a source to locale language sheet = search (then_other, made_other, range_of_other, tested_other)

fill_other : (index : ℕ) (axis : LineAxis) (source : MergedCell) (to : ℤ) (language : Language) (book : Book) → Other (fill_made index axis source to language book)
unfolding fill_made
fill_other index axis source to language book = search (edit_other, made_other, fill_in_other)

-- ---- edits

changed_other : (edit : Edit) (book : Book) → Other (changed edit book)
changed_other (Input index row column content feeds) book = input_other index row column content feeds book
changed_other (ArrayInput index r tree) book = array_other index r tree book
changed_other (SetLink index row column entry) book = link_other index row column entry book
changed_other (Merge index r) book = merge_other index r book
changed_other (Unmerge index row column) book = unmerge_other index row column book
changed_other (Lines index axis kind) book = lines_other (along_of axis) kind index book
changed_other (MoveLines index axis first count delta) book = move_other (along_of axis) first count delta index book
changed_other AddSheet book = added_other book
changed_other (CopySheet index) book = copied_other index book
changed_other (DeleteSheet index) book = deleted_other index book
changed_other (MoveSheet from to) book = taken_other from to book
changed_other (RenameSheet index name) book = named_other index name book
changed_other (ChangeNames edit) book = names_other edit book
changed_other (EditRules edit) book = rules_other edit book
changed_other (SetField index value) book = field_other index value book
changed_other (SetSize index axis first last size) book = attrs_other index axis first last (size_change axis size) book (size_change_other axis size)
changed_other (SetHidden index axis first last hidden) book = attrs_other index axis first last (Ok (Hidden hidden)) book tt
changed_other (SetRangeStyle index r path value) book = styles_other index r path value book
changed_other (ClearRange index clearing r) book = cleared_other index clearing r book
changed_other (ClearFormatting index r) book = formats_other index r book
changed_other (PasteStyles index r styles) book = pasted_other index r styles book
changed_other (SetSetting setting) book = tt
changed_other (Fill index axis source to language) book = fill_other index axis source to language book

-- whatever is asked of a workbook, no refused diff is the answer
pub no_edit_refuses_a_diff : (edit : Edit) (book : Book) (entry diff : ℕ) → changed edit book ≢ Err (DiffRefused entry diff)
no_edit_refuses_a_diff edit book entry diff = λ is. subst Other is (changed_other edit book)
