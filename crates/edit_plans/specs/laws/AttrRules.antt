-- What a line gets keeps the rules of its sheet.
use Rattle.std.proofs.Common.{◌≡◌, ℕ, ℤ, pos, Bool, true, false, cond, ◌&&◌, not, Option, Some, None, Ok, Err, refl, ap, sym, ◌∙◌, arith}
use Rattle.std.proofs.lemmas.Int.{ints}
use Rattle.std.specs.Prelude.{IfOk, int_le, int_lt}
use Rattle.std.specs.FinMap.{get}
use Rattle.std.specs.Cmp.{int_cmp_total}
use Rattle.std.specs.Ordering.{int_cmp, int_eq}
use Rattle.std.proofs.lemmas.Map.Lookups.{exact_signed}
use Rattle.base_values.specs.declared.EditError.TheVariants.{NegativeSize}
use Rattle.base_values.specs.Answers.{map_ok}
use Rattle.base_values.specs.Places.{is_line}
use Rattle.base_styles.specs.declared.Style.{Style}
use Rattle.sheet_grid.specs.declared.LineAttr.{LineAttr}
use Rattle.sheet_grid.specs.Lines.{actual_size, attr_of, is_plain, own_width, size_of, usual_height, usual_width}
use Rattle.sheet_grid.specs.Sheet.{Sheet}
use Rattle.sheet_rules.specs.Occupied.{have_arrays, have_merges, are_hidden_blank}
use Rattle.sheet_rules.specs.WellFormed.{has_keys_inside, have_trees, have_attributes, is_size, is_width, is_row_style, is_column_style, is_row, is_column}
use Rattle.sheet_rules.specs.laws.EntryLaws.{both}
use Rattle.line_sizes.specs.declared.LineChange.{LineChange}
use Rattle.line_sizes.specs.declared.LineChange.TheVariants.{Size, Hidden}
use Rattle.line_sizes.specs.Heights.{needed_height, raised_entry}
use Rattle.line_sizes.specs.LineChanges.{after_change, changed_entry}
use Rattle.sheet_history.specs.declared.LineAxis.{LineAxis}
use Rattle.sheet_history.specs.declared.LineAxis.TheVariants.{Rows, Columns}
use Rattle.sheet_history.specs.LineDiffs.{along_of}
use Rattle.sheet_history.specs.Entries.{is_stored, with_sheet_entry}
use Rattle.sheet_history.specs.Entries.EntryKey.{AttrKey}
use Rattle.sheet_history.specs.Entries.EntryValue.{AttrValue}
use Rattle.sheet_history.specs.laws.Entries.{all_with_entry, entry_holds}
use Rattle.sheet_history.specs.laws.RuleLaws.{KeepsSheetRules}
use Rattle.edit_plans.specs.LineRecords.{change_fits, lines_of, size_change}

-- ---- what a line may have

-- the size and the style that a line of an axis may have of its own
abbrev pub own_size : LineAxis → Option ℤ → Bool
own_size Rows size = is_size size
own_size Columns size = is_width size

abbrev pub own_style : LineAxis → Option Style → Bool
own_style Rows style = is_row_style style
own_style Columns style = is_column_style style

-- what it may have, which is something
abbrev pub own_attr : LineAxis → LineAttr → Bool
own_attr axis attr = not (is_plain attr) && own_size axis attr.size && own_style axis attr.style

-- its entry, if it has one
abbrev pub own_entry : LineAxis → Option LineAttr → Bool
own_entry axis None = true
own_entry axis (Some attr) = own_attr axis attr

-- what a line may have is something
pub own_kept : (axis : LineAxis) (entry : Option LineAttr) → own_entry axis entry ≡ true → is_stored entry ≡ true
own_kept axis None own = refl
own_kept axis (Some attr) own =
    (both (not (is_plain attr)) (own_size axis attr.size) (both (not (is_plain attr) && own_size axis attr.size) (own_style axis attr.style) own).0).0

no_size : (axis : LineAxis) → own_size axis None ≡ true
no_size Rows = refl
no_size Columns = refl

no_style : (axis : LineAxis) → own_style axis None ≡ true
no_style Rows = refl
no_style Columns = refl

-- the size and the style of an entry that a line may have
pub entry_size : (axis : LineAxis) (entry : Option LineAttr) → own_entry axis entry ≡ true → own_size axis (attr_of entry).size ≡ true
entry_size axis None own = no_size axis
entry_size axis (Some attr) own =
    (both (not (is_plain attr)) (own_size axis attr.size) (both (not (is_plain attr) && own_size axis attr.size) (own_style axis attr.style) own).0).1

pub entry_style : (axis : LineAxis) (entry : Option LineAttr) → own_entry axis entry ≡ true → own_style axis (attr_of entry).style ≡ true
entry_style axis None own = no_style axis
entry_style axis (Some attr) own = (both (not (is_plain attr) && own_size axis attr.size) (own_style axis attr.style) own).1

-- ---- after a change

changed_size : (axis : LineAxis) (change : LineChange) (entry : Option LineAttr) → change_fits axis change ≡ true → own_entry axis entry ≡ true
    → own_size axis (after_change change (attr_of entry)).size ≡ true
changed_size Rows (Size size) entry fits own = fits
changed_size Columns (Size size) entry fits own = fits
changed_size Rows (Hidden hidden) entry fits own = entry_size Rows entry own
changed_size Columns (Hidden hidden) entry fits own = entry_size Columns entry own

changed_style : (axis : LineAxis) (change : LineChange) (entry : Option LineAttr) → own_entry axis entry ≡ true
    → own_style axis (after_change change (attr_of entry)).style ≡ true
changed_style axis (Size size) entry own = entry_style axis entry own
changed_style axis (Hidden hidden) entry own = entry_style axis entry own

-- what a line has after a change that fits it may have
pub changed_own : (axis : LineAxis) (change : LineChange) (entry : Option LineAttr) → change_fits axis change ≡ true → own_entry axis entry ≡ true
    → own_entry axis (changed_entry change entry) ≡ true
changed_own axis change entry fits own = go (is_plain next) refl
  where
    next : LineAttr
    next = after_change change (attr_of entry)

    go : (b : Bool) → is_plain (after_change change (attr_of entry)) ≡ b → own_entry axis (cond b None (Some (after_change change (attr_of entry)))) ≡ true
    go true is = refl
    go false is = λ i. not (is i) && changed_size axis change entry fits own i && changed_style axis change entry own i

-- what a row or a column of a sheet that keeps its rules has
pub row_own : (s : Sheet) → KeepsSheetRules s → (line : ℤ) → own_entry Rows (get s.rows line) ≡ true
unfolding have_attributes
row_own s h line = go (get s.rows line) refl
  where
    go : (o : Option LineAttr) → get s.rows line ≡ o → own_entry Rows o ≡ true
    go None found = refl
    go (Some attr) found =
        entry_holds int_cmp int_cmp_total exact_signed (λ (e : ℤ × LineAttr). is_row e.1) s.rows (both _ _ (both _ _ h.attributes).0).0 line attr found

pub column_own : (s : Sheet) → KeepsSheetRules s → (line : ℤ) → own_entry Columns (get s.columns line) ≡ true
unfolding have_attributes
column_own s h line = go (get s.columns line) refl
  where
    go : (o : Option LineAttr) → get s.columns line ≡ o → own_entry Columns o ≡ true
    go None found = refl
    go (Some attr) found =
        entry_holds int_cmp int_cmp_total exact_signed (λ (e : ℤ × LineAttr). is_column e.1) s.columns (both _ _ (both _ _ h.attributes).0).1 line attr found

pub line_own : (axis : LineAxis) (s : Sheet) → KeepsSheetRules s → (line : ℤ) → own_entry axis (get (lines_of axis s) line) ≡ true
line_own Rows s h line = row_own s h line
line_own Columns s h line = column_own s h line

-- ---- what is put

own_of : (axis : LineAxis) (entry : Option LineAttr) (attr : LineAttr) → own_entry axis entry ≡ true → entry ≡ Some attr → own_attr axis attr ≡ true
own_of axis entry attr own is = sym (ap (own_entry axis) is) ∙ own

-- what a line may have, put in a line of a sheet that keeps its rules, leaves one
pub attr-put : (s : Sheet) (id : ℕ) (axis : LineAxis) (line : ℤ) (entry : Option LineAttr) → is_line (along_of axis).last line ≡ true → own_entry axis entry
    ≡ true
    → KeepsSheetRules s → KeepsSheetRules (with_sheet_entry (AttrKey id axis line) (AttrValue entry) s)
unfolding has_keys_inside have_arrays have_merges are_hidden_blank have_trees have_attributes
attr-put s id Rows line entry inside own h =
    let outer = both _ _ h.inside in
    let middle = both _ _ outer.0 in
    let kept = both _ _ h.attributes in
    let lines = both _ _ kept.0 in
    let rows = all_with_entry int_cmp int_cmp_total exact_signed (λ (e : ℤ × LineAttr). is_line (pos 1048576) e.0) s.rows line entry (λ attr is. inside)
    middle.1 in
    let attributes = all_with_entry int_cmp int_cmp_total exact_signed (λ (e : ℤ × LineAttr). is_row e.1) s.rows line entry
    (λ attr is. own_of Rows entry attr own is) lines.0 in
    record {
      inside = λ i. middle.0 i && rows i && outer.1 i;
      arrays = h.arrays;
      merges = h.merges;
      hidden = h.hidden;
      trees = h.trees;
      rule_trees = h.rule_trees;
      attributes = λ i. attributes i && lines.1 i && kept.1 i;
      frozen = h.frozen;
      rule_parts = h.rule_parts;
    }
attr-put s id Columns line entry inside own h =
    let outer = both _ _ h.inside in
    let kept = both _ _ h.attributes in
    let lines = both _ _ kept.0 in
    let columns = all_with_entry int_cmp int_cmp_total exact_signed (λ (e : ℤ × LineAttr). is_line (pos 16384) e.0) s.columns line entry (λ attr is. inside)
    outer.1 in
    let attributes = all_with_entry int_cmp int_cmp_total exact_signed (λ (e : ℤ × LineAttr). is_column e.1) s.columns line entry
    (λ attr is. own_of Columns entry attr own is) lines.1 in
    record {
      inside = λ i. outer.0 i && columns i;
      arrays = h.arrays;
      merges = h.merges;
      hidden = h.hidden;
      trees = h.trees;
      rule_trees = h.rule_trees;
      attributes = λ i. lines.0 i && attributes i && kept.1 i;
      frozen = h.frozen;
      rule_parts = h.rule_parts;
    }

-- ---- heights that texts ask for, sizes and hiding

-- a natural number is not negative
not_negative : (n : ℕ) → int_le (pos 0) (pos n) ≡ true
not_negative n = grind (arith, ints)

-- a height that a text asks for is a size
pub needed_size : (feeds : ℕ) (size : ℤ) → is_size (Some (needed_height feeds size)) ≡ true
needed_size feeds size = not_negative _

-- what a row has where a text asks for a height it may have
pub raised_own : (needed : ℤ) (entry : Option LineAttr) → is_size (Some needed) ≡ true → own_entry Rows entry ≡ true
    → own_entry Rows (raised_entry needed entry) ≡ true
raised_own needed entry size own = go (int_lt (actual_size usual_height entry) needed)
  where
    go : (b : Bool) → own_entry Rows (cond b (changed_entry (Size (Some needed)) entry) entry) ≡ true
    go true = changed_own Rows (Size (Some needed)) entry size own
    go false = own

width_fits : (width : ℤ) → int_le (pos 0) width ≡ true → is_width (own_width width) ≡ true
width_fits width low = go (int_eq width usual_width) refl
  where
    go : (b : Bool) → int_eq width usual_width ≡ b → is_width (cond b None (Some width)) ≡ true
    go true usual = refl
    go false other = λ i. low i && not (other i)

-- lines that get a size may have it
pub size_fits : (axis : LineAxis) (size : ℤ) → IfOk (size_change axis size) (λ output. change_fits axis output ≡ true)
unfolding size_of
size_fits Rows size = go (int_le (pos 0) size) refl
  where
    go : (b : Bool) → int_le (pos 0) size ≡ b
        → IfOk (map_ok (λ (size : ℤ). Size (Some size)) (cond b (Ok size) (Err NegativeSize))) (λ output. change_fits Rows output ≡ true)
    go true low = low
    go false low = tt
size_fits Columns size = go (int_le (pos 0) size) refl
  where
    go : (b : Bool) → int_le (pos 0) size ≡ b
        → IfOk (map_ok (λ (size : ℤ). Size (own_width size)) (cond b (Ok size) (Err NegativeSize))) (λ output. change_fits Columns output ≡ true)
    go true low = width_fits size low
    go false low = tt

-- and lines that are hidden or shown
pub hidden_fits : (axis : LineAxis) (hidden : Bool) → change_fits axis (Hidden hidden) ≡ true
hidden_fits Rows hidden = refl
hidden_fits Columns hidden = refl
