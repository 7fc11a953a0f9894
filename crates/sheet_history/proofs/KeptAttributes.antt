-- What a line has stays what it is as a row's or a column's, where it is something.
use Rattle.std.proofs.Common.{◌≡◌, ℕ, ℤ, Bool, true, false, cond, Option, Some, None, refl, ap}
use Rattle.std.specs.Prelude.{not}
use Rattle.std.specs.Option.{option_map}
use Rattle.sheet_grid.specs.declared.LineAttr.{LineAttr}
use Rattle.sheet_grid.specs.Lines.{column_of_line, is_plain, stored_line, line_of_column, line_of_row, row_of_line}
use Rattle.sheet_grid.specs.Sheet.{Sheet}
use Rattle.sheet_history.specs.declared.diff.LineAxis.{LineAxis}
use Rattle.sheet_history.specs.declared.diff.LineAxis.TheVariants.{Rows, Columns}
use Rattle.sheet_history.specs.Diffs.{sheet_put}
use Rattle.sheet_history.specs.Entries.{is_stored}
use Rattle.sheet_history.specs.Entries.EntryKey.{AttrKey}
use Rattle.sheet_history.specs.Entries.EntryValue.{AttrValue}

not_plain : (b : Bool) → not b ≡ true → b ≡ false
not_plain true h = absurd (cc)
not_plain false h = refl

kept : (entry : Option LineAttr) → is_stored entry ≡ true → stored_line entry ≡ entry
kept None h = refl
kept (Some attr) h = ap (λ b. cond b None (Some attr)) (not_plain (is_plain attr) h)

pub kept_row : (entry : Option LineAttr) → is_stored entry ≡ true → stored_line (option_map line_of_row (option_map row_of_line entry)) ≡ entry
kept_row None h = refl
kept_row (Some attr) h = kept (Some attr) h

pub kept_column : (entry : Option LineAttr) → is_stored entry ≡ true → stored_line (option_map line_of_column (option_map column_of_line entry)) ≡ entry
kept_column None h = refl
kept_column (Some attr) h = kept (Some attr) h

-- in a sheet, the id of the key counts for nothing
pub put_of_any : (at id other : ℕ) (axis : LineAxis) (line : ℤ) (entry : Option LineAttr) (s : Sheet)
    → sheet_put at (AttrKey id axis line) (AttrValue entry) s ≡ sheet_put at (AttrKey other axis line) (AttrValue entry) s
put_of_any at id other Rows line entry s = refl
put_of_any at id other Columns line entry s = refl
