-- The three laws of diffs, of entries and of queues.
use Rattle.std.proofs.Common.{◌≡◌, ℕ, ◌^◌, ◌<◌, ◌≤◌, eqb, List, ◌++◌, length, Option, Some, Ok, refl, arith}
use Rattle.std.specs.Prelude.{IfSome}
use Rattle.std.specs.Int.{w32, to_be_bytes}
use Rattle.base_values.specs.declared.Position.{Position}
use Rattle.sheet_history.specs.declared.Diff.{Diff}
use Rattle.sheet_history.specs.declared.Diff.TheVariants.{Cell as CellDiff, Link as LinkDiff, Merges as MergesDiff, Field as FieldDiff, Lines as LinesDiff, NewSheet as NewDiff, DuplicateSheet as CopyDiff, DeleteSheet as DeletionDiff, MoveSheet as MoveDiff, RenameSheet as RenameDiff, ChangeName as NameDiff, Rule as RuleDiff, Attributes as AttrDiff, Setting as SettingDiff}
use Rattle.sheet_history.specs.declared.FieldChange.TheVariants as change
use Rattle.sheet_history.specs.declared.SettingChange.TheVariants as setting
use Rattle.sheet_history.specs.declared.DiffType.{DiffType}
use Rattle.sheet_history.specs.declared.DiffType.TheVariants.{Undo, Redo}
use Rattle.sheet_history.specs.declared.LineAxis.{LineAxis}
use Rattle.sheet_history.specs.declared.LineAxis.TheVariants.{Rows, Columns}
use Rattle.base_wire.specs.laws.Reading.{Reader, map_at, after, code_at, decoded, list_at, signed_at, text_at, boolean_at}
use Rattle.base_wire.specs.Encoding.{Any, Both, encode_both, encode_code, encode_list, encode_option, encode_text}
use Rattle.base_wire.specs.laws.Again.{ReadsAgain, code_again}
use Rattle.base_wire.specs.laws.Format.{Format, list_format, option_format}
use Rattle.base_wire.specs.laws.Formats.{both_format, after_format, made_format}
use Rattle.base_wire.specs.laws.Parts.{boolean_format, short_format, signed_format, text_format}
use Rattle.grid_wire.specs.laws.CellReading.{color_at, cell_at, link_at, merges_at}
use Rattle.base_wire.specs.laws.Refusals.{IsPlain, code_plain, if_plain, map_plain, refused_plain, tagged_plain}
use Rattle.base_wire.specs.laws.Encoded.{ReadsEncoded, code_encoded, tag_if, tag_map, tag_refused, tagged_encoded}
use Rattle.grid_wire.specs.CellBytes.{encode_position, FitsPosition, encode_cell}
use Rattle.grid_wire.specs.LinkBytes.{encode_link}
use Rattle.grid_wire.specs.MergeBytes.{encode_merges}
use Rattle.grid_wire.specs.laws.CellFormats.{color_format, position_format, cell_format}
use Rattle.grid_wire.specs.laws.MergeLaws.{link_format, merges_format}
use Rattle.sheet_wire.specs.EditBytes.{encode_edit, FitsEdit}
use Rattle.sheet_wire.specs.KeptBytes.{encode_kept, FitsKept}
use Rattle.sheet_wire.specs.laws.EditLaws.{edit_format}
use Rattle.sheet_wire.specs.laws.KeptLaws.{kept_format}
use Rattle.sheet_wire.specs.ChangeBytes.{encode_change, encode_sheet_change}
use Rattle.sheet_wire.specs.laws.Reading.{standing_at, change_at, sheet_change_at, axes, lines_parts_at, state_at, new_parts_at, copy_parts_at, deletion_parts_at, move_parts_at, rule_parts_at, rename_parts_at, name_parts_at, attr_parts_at, rename_diff_made, rename_diff_at, name_diff_made, name_diff_at, move_diff_made, move_diff_at, color_diff_made, color_diff_at, state_diff_made, state_diff_at, grid_diff_made, grid_diff_at, attr_diff_made, attr_diff_at, frozen_rows_diff_made, frozen_rows_diff_at, frozen_columns_diff_made, frozen_columns_diff_at, pair_at, theme_diff_made, theme_diff_at, title_diff_made, title_diff_at, locale_diff_made, locale_diff_at, zone_diff_made, zone_diff_at, cell_diff_made, cell_diff_at, link_diff_made, link_diff_at, merges_diff_made, merges_diff_at, rule_diff_made, rule_diff_at, lines_diff_made, lines_diff_at, new_diff_made, new_diff_at, copy_diff_made, copy_diff_at, deletion_diff_made, deletion_diff_at, diff_of, diff_at, directions, entry_made, list_of_diffs_at, entry_at}
use Rattle.sheet_wire.specs.LinesBytes.{axis_code, encode_lines}
use Rattle.sheet_wire.specs.SheetsBytes.{encode_color_change, encode_state_change, encode_grid_change, encode_new, encode_copy, encode_deletion, encode_move, encode_count_change}
use Rattle.sheet_wire.specs.RulesBytes.{encode_rule}
use Rattle.sheet_wire.specs.laws.RulesFormats.{rule_parts_format}
use Rattle.sheet_wire.specs.TreesBytes.{encode_rename, encode_name_change}
use Rattle.sheet_wire.specs.laws.TreesFormats.{rename_parts_format, name_parts_format}
use Rattle.sheet_wire.specs.AttrBytes.{encode_attr_change}
use Rattle.sheet_wire.specs.laws.AttrFormats.{attr_parts_format}
use Rattle.sheet_wire.specs.laws.SheetsFormats.{sheet_change_format, sheet_state_format, new_parts_format, copy_parts_format, deletion_parts_format, move_parts_format}
use Rattle.grid_wire.specs.TableBytes.{encode_locale, encode_zone}
use Rattle.grid_wire.specs.laws.SettingReading.{locale_at, zone_at, theme_at}
use Rattle.grid_wire.specs.ThemeBytes.{encode_theme}
use Rattle.grid_wire.specs.laws.SettingFormats.{locale_format, theme_format, zone_format}
use Rattle.sheet_wire.specs.SettingBytes.{encode_twice}
use Rattle.sheet_wire.specs.laws.SettingFormats.{twice_format}
use Rattle.sheet_wire.specs.QueueBytes.{encode_diff, FitsDiff, FitsList, direction_code, encode_entry, FitsEntry, magic, FitsQueue}

-- ---- diffs

-- what the parts of a change at a position encode, and what bytes can carry of them
abbrev ChangeFits : {A : Type 0} → (A → Type 0) → ℕ × (Position × (Option A × Option A)) → Type 0
ChangeFits F = Both (λ id. id < 2 ^ 32) (Both FitsPosition (Both (λ old. IfSome old F) (λ new. IfSome new F)))

abbrev change_encoding : {A : Type 0} → (A → List ℕ) → ℕ × (Position × (Option A × Option A)) → List ℕ
change_encoding s = encode_both (to_be_bytes w32) (encode_both encode_position (encode_both (encode_option s) (encode_option s)))

change_format : {A : Type 0} {F : A → Type 0} {s : A → List ℕ} {r : Reader A} → Format F s r → Format (ChangeFits F) (change_encoding s) (change_at r)
unfolding standing_at
change_format law = both_format short_format (both_format position_format (both_format (option_format law) (option_format law)))

axis_known : (x : LineAxis) → decoded axis_code axes (axis_code x) ≡ Some x
axis_known Rows = refl
axis_known Columns = refl

axis_format : Format Any (encode_code axis_code) (code_at axis_code axes)
axis_format = record { again = code_again axis_code axes axis_known; encoded = code_encoded axis_code axes; plain = code_plain axis_code axes }

lines_parts_format : Format (Both (λ id. id < 2 ^ 32) (Both Any (Both FitsEdit FitsKept))) (encode_both (to_be_bytes w32) (encode_both (encode_code axis_code) (encode_both encode_edit encode_kept))) lines_parts_at
lines_parts_format = both_format short_format (both_format axis_format (both_format edit_format kept_format))

map_reads : {A B : Type 0} (f : A → B) (r : Reader A) (bytes : List ℕ) (x : A) (rest : List ℕ) → r bytes ≡ Ok (x, rest) → map_at f r bytes ≡ Ok (f x, rest)
map_reads f r bytes x rest h = rw h refl

diff_again : ReadsAgain FitsDiff encode_diff diff_at
unfolding encode_sheet_change encode_new encode_copy encode_deletion encode_rename encode_name_change encode_move encode_rule diff_at cell_diff_at link_diff_at merges_diff_at rule_diff_at lines_diff_at new_diff_at copy_diff_at deletion_diff_at rename_diff_at move_diff_at color_diff_at state_diff_at grid_diff_at name_diff_at attr_diff_at frozen_rows_diff_at frozen_columns_diff_at theme_diff_at title_diff_at locale_diff_at zone_diff_at
diff_again = record { again = one }
  where
    one : (x : Diff) (rest : List ℕ) → FitsDiff x → diff_at (encode_diff x ++ rest) ≡ Ok (x, rest)
    one (CellDiff sheet place old new) rest fits =
        map_reads cell_diff_made (change_at cell_at) (encode_change encode_cell sheet place old new ++ rest) (sheet, (place, (old, new))) rest
        ((change_format cell_format).again.again (sheet, (place, (old, new))) rest (fits.sheet, (fits.place, (fits.old, fits.new))))
    one (LinkDiff sheet place old new) rest fits =
        map_reads link_diff_made (change_at link_at) (encode_change encode_link sheet place old new ++ rest) (sheet, (place, (old, new))) rest
        ((change_format link_format).again.again (sheet, (place, (old, new))) rest (fits.sheet, (fits.place, (fits.old, fits.new))))
    one (MergesDiff sheet old new) rest fits =
        map_reads merges_diff_made (sheet_change_at merges_at) (encode_sheet_change encode_merges sheet old new ++ rest) (sheet, (old, new)) rest
        ((sheet_change_format merges_format).again.again (sheet, (old, new)) rest (fits.sheet, (fits.old, fits.new)))
    one (RuleDiff sheet c) rest fits =
        map_reads rule_diff_made rule_parts_at (encode_rule sheet c ++ rest) (sheet, c) rest
        (rule_parts_format.again.again (sheet, c) rest (fits.sheet, fits.change))
    one (LinesDiff sheet axis edit kept) rest fits =
        map_reads lines_diff_made lines_parts_at (encode_lines sheet axis edit kept ++ rest) (sheet, (axis, (edit, kept))) rest
        (lines_parts_format.again.again (sheet, (axis, (edit, kept))) rest (fits.sheet, (tt, (fits.edit, fits.kept))))
    one (NewDiff sheet index name) rest fits =
        map_reads new_diff_made new_parts_at (encode_new sheet index name ++ rest) (sheet, (index, name)) rest
        (new_parts_format.again.again (sheet, (index, name)) rest (fits.sheet, (fits.index, fits.name)))
    one (CopyDiff source sheet index name) rest fits =
        map_reads copy_diff_made copy_parts_at (encode_copy source sheet index name ++ rest) (source, (sheet, (index, name))) rest
        (copy_parts_format.again.again (source, (sheet, (index, name))) rest (fits.source, (fits.copy.sheet, (fits.copy.index, fits.copy.name))))
    one (DeletionDiff index kept) rest fits =
        map_reads deletion_diff_made deletion_parts_at (encode_deletion index kept ++ rest) (index, kept) rest
        (deletion_parts_format.again.again (index, kept) rest (fits.index, fits.kept))
    one (MoveDiff sheet from to) rest fits =
        map_reads move_diff_made move_parts_at (encode_move sheet from to ++ rest) (sheet, (from, to)) rest
        (move_parts_format.again.again (sheet, (from, to)) rest (fits.sheet, (fits.from, fits.to)))
    one (RenameDiff sheet old new kept) rest fits =
        map_reads rename_diff_made rename_parts_at (encode_rename sheet old new kept ++ rest) (sheet, (old, (new, kept))) rest
        (rename_parts_format.again.again (sheet, (old, (new, kept))) rest (fits.sheet, (fits.old, (fits.new, fits.kept))))
    one (NameDiff c kept) rest fits =
        map_reads name_diff_made name_parts_at (encode_name_change c kept ++ rest) (c.index, (c.old, (c.new, kept))) rest
        (name_parts_format.again.again (c.index, (c.old, (c.new, kept))) rest (fits.index, (fits.old, (fits.new, fits.kept))))
    one (FieldDiff sheet (change.Color old new)) rest fits =
        map_reads color_diff_made (sheet_change_at color_at) (encode_color_change sheet old new ++ rest) (sheet, (old, new)) rest
        ((sheet_change_format color_format).again.again (sheet, (old, new)) rest (fits.sheet, (fits.old, fits.new)))
    one (FieldDiff sheet (change.State old new)) rest fits =
        map_reads state_diff_made (sheet_change_at state_at) (encode_state_change sheet old new ++ rest) (sheet, (old, new)) rest
        ((sheet_change_format sheet_state_format).again.again (sheet, (old, new)) rest (fits.sheet, (tt, tt)))
    one (FieldDiff sheet (change.GridLines old new)) rest fits =
        map_reads grid_diff_made (sheet_change_at boolean_at) (encode_grid_change sheet old new ++ rest) (sheet, (old, new)) rest
        ((sheet_change_format boolean_format).again.again (sheet, (old, new)) rest (fits.sheet, (tt, tt)))
    one (FieldDiff sheet (change.FrozenRows old new)) rest fits =
        map_reads frozen_rows_diff_made (sheet_change_at (signed_at w32)) (encode_count_change sheet old new ++ rest) (sheet, (old, new)) rest
        ((sheet_change_format signed_format).again.again (sheet, (old, new)) rest (fits.sheet, (fits.old, fits.new)))
    one (FieldDiff sheet (change.FrozenColumns old new)) rest fits =
        map_reads frozen_columns_diff_made (sheet_change_at (signed_at w32)) (encode_count_change sheet old new ++ rest) (sheet, (old, new)) rest
        ((sheet_change_format signed_format).again.again (sheet, (old, new)) rest (fits.sheet, (fits.old, fits.new)))
    one (SettingDiff (setting.Theme old new)) rest fits =
        map_reads theme_diff_made (pair_at theme_at) (encode_twice encode_theme old new ++ rest) (old, new) rest
        ((twice_format theme_format).again.again (old, new) rest (fits.0, fits.1))
    one (SettingDiff (setting.Name old new)) rest fits =
        map_reads title_diff_made (pair_at text_at) (encode_twice encode_text old new ++ rest) (old, new) rest
        ((twice_format text_format).again.again (old, new) rest (fits.0, fits.1))
    one (SettingDiff (setting.Locale old new)) rest fits =
        map_reads locale_diff_made (pair_at locale_at) (encode_twice encode_locale old new ++ rest) (old, new) rest
        ((twice_format locale_format).again.again (old, new) rest (tt, tt))
    one (SettingDiff (setting.Zone old new)) rest fits =
        map_reads zone_diff_made (pair_at zone_at) (encode_twice encode_zone old new ++ rest) (old, new) rest
        ((twice_format zone_format).again.again (old, new) rest (tt, tt))
    one (AttrDiff sheet Columns line old new) rest fits =
        map_reads (attr_diff_made Columns) attr_parts_at (encode_attr_change sheet line old new ++ rest) (sheet, (line, (old, new))) rest
        (attr_parts_format.again.again (sheet, (line, (old, new))) rest (fits.sheet, (fits.line, (fits.old, fits.new))))
    one (AttrDiff sheet Rows line old new) rest fits =
        map_reads (attr_diff_made Rows) attr_parts_at (encode_attr_change sheet line old new ++ rest) (sheet, (line, (old, new))) rest
        (attr_parts_format.again.again (sheet, (line, (old, new))) rest (fits.sheet, (fits.line, (fits.old, fits.new))))

diff_encoded : ReadsEncoded FitsDiff encode_diff diff_at
unfolding encode_sheet_change encode_new encode_copy encode_deletion encode_rename encode_name_change encode_move encode_rule diff_at cell_diff_at link_diff_at merges_diff_at rule_diff_at lines_diff_at new_diff_at copy_diff_at deletion_diff_at rename_diff_at move_diff_at color_diff_at state_diff_at grid_diff_at name_diff_at attr_diff_at frozen_rows_diff_at frozen_columns_diff_at theme_diff_at title_diff_at locale_diff_at zone_diff_at
diff_encoded =
    tagged_encoded diff_of (λ tag.
    tag_if tag 1 (tag_map (change_format cell_format).encoded cell_diff_made FitsDiff encode_diff 1 (λ x. refl) (λ x fits. record { sheet = fits.0; place = fits.1.0; old = fits.1.1.0; new = fits.1.1.1 }))
    (tag_if tag 2 (tag_map (change_format link_format).encoded link_diff_made FitsDiff encode_diff 2 (λ x. refl) (λ x fits. record { sheet = fits.0; place = fits.1.0; old = fits.1.1.0; new = fits.1.1.1 }))
    (tag_if tag 3 (tag_map attr_parts_format.encoded (attr_diff_made Columns) FitsDiff encode_diff 3 (λ x. refl) (λ x fits. record { sheet = fits.0; line = fits.1.0; old = fits.1.1.0; new = fits.1.1.1 }))
    (tag_if tag 4 (tag_map attr_parts_format.encoded (attr_diff_made Rows) FitsDiff encode_diff 4 (λ x. refl) (λ x fits. record { sheet = fits.0; line = fits.1.0; old = fits.1.1.0; new = fits.1.1.1 }))
    (tag_if tag 5 (tag_map (sheet_change_format merges_format).encoded merges_diff_made FitsDiff encode_diff 5 (λ x. refl) (λ x fits. record { sheet = fits.0; old = fits.1.0; new = fits.1.1 }))
    (tag_if tag 6 (tag_map rule_parts_format.encoded rule_diff_made FitsDiff encode_diff 6 (λ x. refl) (λ x fits. record { sheet = fits.0; change = fits.1 }))
    (tag_if tag 7 (tag_map lines_parts_format.encoded lines_diff_made FitsDiff encode_diff 7 (λ x. refl) (λ x fits. record { sheet = fits.0; edit = fits.1.1.0; kept = fits.1.1.1 }))
    (tag_if tag 8 (tag_map new_parts_format.encoded new_diff_made FitsDiff encode_diff 8 (λ x. refl) (λ x fits. record { sheet = fits.0; index = fits.1.0; name = fits.1.1 }))
    (tag_if tag 9 (tag_map copy_parts_format.encoded copy_diff_made FitsDiff encode_diff 9 (λ x. refl) (λ x fits. record { source = fits.0; copy = record { sheet = fits.1.0; index = fits.1.1.0; name = fits.1.1.1 } }))
    (tag_if tag 10 (tag_map deletion_parts_format.encoded deletion_diff_made FitsDiff encode_diff 10 (λ x. refl) (λ x fits. record { index = fits.0; kept = fits.1 }))
    (tag_if tag 11 (tag_map rename_parts_format.encoded rename_diff_made FitsDiff encode_diff 11 (λ x. refl) (λ x fits. record { sheet = fits.0; old = fits.1.0; new = fits.1.1.0; kept = fits.1.1.1 }))
    (tag_if tag 12 (tag_map move_parts_format.encoded move_diff_made FitsDiff encode_diff 12 (λ x. refl) (λ x fits. record { sheet = fits.0; from = fits.1.0; to = fits.1.1 }))
    (tag_if tag 13 (tag_map (sheet_change_format color_format).encoded color_diff_made FitsDiff encode_diff 13 (λ x. refl) (λ x fits. record { sheet = fits.0; old = fits.1.0; new = fits.1.1 }))
    (tag_if tag 14 (tag_map (sheet_change_format sheet_state_format).encoded state_diff_made FitsDiff encode_diff 14 (λ x. refl) (λ x fits. record { sheet = fits.0; old = tt; new = tt }))
    (tag_if tag 15 (tag_map (sheet_change_format boolean_format).encoded grid_diff_made FitsDiff encode_diff 15 (λ x. refl) (λ x fits. record { sheet = fits.0; old = tt; new = tt }))
    (tag_if tag 16 (tag_map (sheet_change_format signed_format).encoded frozen_rows_diff_made FitsDiff encode_diff 16 (λ x. refl) (λ x fits. record { sheet = fits.0; old = fits.1.0; new = fits.1.1 }))
    (tag_if tag 17 (tag_map (sheet_change_format signed_format).encoded frozen_columns_diff_made FitsDiff encode_diff 17 (λ x. refl) (λ x fits. record { sheet = fits.0; old = fits.1.0; new = fits.1.1 }))
    (tag_if tag 18 (tag_map (twice_format theme_format).encoded theme_diff_made FitsDiff encode_diff 18 (λ x. refl) (λ x fits. (fits.0, fits.1)))
    (tag_if tag 19 (tag_map (twice_format text_format).encoded title_diff_made FitsDiff encode_diff 19 (λ x. refl) (λ x fits. (fits.0, fits.1)))
    (tag_if tag 20 (tag_map (twice_format locale_format).encoded locale_diff_made FitsDiff encode_diff 20 (λ x. refl) (λ x fits. tt))
    (tag_if tag 21 (tag_map (twice_format zone_format).encoded zone_diff_made FitsDiff encode_diff 21 (λ x. refl) (λ x fits. tt))
    (tag_if tag 22 (tag_map name_parts_format.encoded name_diff_made FitsDiff encode_diff 22 (λ x. refl) (λ x fits. record { index = fits.0; old = fits.1.0; new = fits.1.1.0; kept = fits.1.1.1 }))
    (tag_refused FitsDiff encode_diff tag)))))))))))))))))))))))

diff_plain : IsPlain diff_at
unfolding diff_at cell_diff_at link_diff_at merges_diff_at rule_diff_at lines_diff_at new_diff_at copy_diff_at deletion_diff_at rename_diff_at move_diff_at color_diff_at state_diff_at grid_diff_at name_diff_at attr_diff_at frozen_rows_diff_at frozen_columns_diff_at theme_diff_at title_diff_at locale_diff_at zone_diff_at
diff_plain =
    tagged_plain diff_of (λ tag.
    if_plain (eqb tag 1) (map_plain cell_diff_made (change_format cell_format).plain)
    (if_plain (eqb tag 2) (map_plain link_diff_made (change_format link_format).plain)
    (if_plain (eqb tag 3) (map_plain (attr_diff_made Columns) attr_parts_format.plain)
    (if_plain (eqb tag 4) (map_plain (attr_diff_made Rows) attr_parts_format.plain)
    (if_plain (eqb tag 5) (map_plain merges_diff_made (sheet_change_format merges_format).plain)
    (if_plain (eqb tag 6) (map_plain rule_diff_made rule_parts_format.plain)
    (if_plain (eqb tag 7) (map_plain lines_diff_made lines_parts_format.plain)
    (if_plain (eqb tag 8) (map_plain new_diff_made new_parts_format.plain)
    (if_plain (eqb tag 9) (map_plain copy_diff_made copy_parts_format.plain)
    (if_plain (eqb tag 10) (map_plain deletion_diff_made deletion_parts_format.plain)
    (if_plain (eqb tag 11) (map_plain rename_diff_made rename_parts_format.plain)
    (if_plain (eqb tag 12) (map_plain move_diff_made move_parts_format.plain)
    (if_plain (eqb tag 13) (map_plain color_diff_made (sheet_change_format color_format).plain)
    (if_plain (eqb tag 14) (map_plain state_diff_made (sheet_change_format sheet_state_format).plain)
    (if_plain (eqb tag 15) (map_plain grid_diff_made (sheet_change_format boolean_format).plain)
    (if_plain (eqb tag 16) (map_plain frozen_rows_diff_made (sheet_change_format signed_format).plain)
    (if_plain (eqb tag 17) (map_plain frozen_columns_diff_made (sheet_change_format signed_format).plain)
    (if_plain (eqb tag 18) (map_plain theme_diff_made (twice_format theme_format).plain)
    (if_plain (eqb tag 19) (map_plain title_diff_made (twice_format text_format).plain)
    (if_plain (eqb tag 20) (map_plain locale_diff_made (twice_format locale_format).plain)
    (if_plain (eqb tag 21) (map_plain zone_diff_made (twice_format zone_format).plain)
    (if_plain (eqb tag 22) (map_plain name_diff_made name_parts_format.plain) refused_plain))))))))))))))))))))))

pub diff_format : Format FitsDiff encode_diff diff_at
diff_format = record { again = diff_again; encoded = diff_encoded; plain = diff_plain }

pub diff_some : (x : Diff) → 1 ≤ length (encode_diff x)
diff_some (CellDiff sheet place old new) = omega arith
diff_some (LinkDiff sheet place old new) = omega arith
diff_some (MergesDiff sheet old new) = omega arith
diff_some (RuleDiff sheet c) = omega arith
diff_some (LinesDiff sheet axis edit kept) = omega arith
diff_some (NewDiff sheet index name) = omega arith
diff_some (CopyDiff source sheet index name) = omega arith
diff_some (DeletionDiff index kept) = omega arith
diff_some (MoveDiff sheet from to) = omega arith
diff_some (RenameDiff sheet old new kept) = omega arith
diff_some (NameDiff change kept) = omega arith
diff_some (FieldDiff sheet (change.Color old new)) = omega arith
diff_some (FieldDiff sheet (change.State old new)) = omega arith
diff_some (FieldDiff sheet (change.GridLines old new)) = omega arith
diff_some (FieldDiff sheet (change.FrozenRows old new)) = omega arith
diff_some (FieldDiff sheet (change.FrozenColumns old new)) = omega arith
diff_some (AttrDiff sheet axis line old new) = omega arith
diff_some (SettingDiff (setting.Theme old new)) = omega arith
diff_some (SettingDiff (setting.Name old new)) = omega arith
diff_some (SettingDiff (setting.Locale old new)) = omega arith
diff_some (SettingDiff (setting.Zone old new)) = omega arith

-- ---- entries and queues

list_of_diffs_format : Format FitsList (encode_list encode_diff) list_of_diffs_at
unfolding list_of_diffs_at
list_of_diffs_format = list_format diff_format diff_some

direction_known : (x : DiffType) → decoded direction_code directions (direction_code x) ≡ Some x
direction_known Undo = refl
direction_known Redo = refl

direction_format : Format Any (encode_code direction_code) (code_at direction_code directions)
direction_format = record { again = code_again direction_code directions direction_known; encoded = code_encoded direction_code directions; plain = code_plain direction_code directions }

pub entry_format : Format FitsEntry encode_entry entry_at
unfolding entry_at
entry_format = made_format (both_format direction_format list_of_diffs_format) entry_made (λ entry. (entry.kind, entry.list)) (λ entry fits. (refl, (tt, fits))) (λ x fits. (refl, fits.1))

pub queue_format : Format FitsQueue (λ queue. magic ++ encode_list encode_entry queue) (after magic (list_at entry_at))
queue_format = after_format (list_format entry_format (λ x. omega arith)) magic refl
