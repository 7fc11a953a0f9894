-- The three laws of the parts of changes of sheets.
use Rattle.std.proofs.Common.{ℕ, ◌^◌, ◌<◌, ◌≤◌, List, length, refl, arith}
use Rattle.std.proofs.lemmas.List.{length-append}
use Rattle.std.proofs.lemmas.Map.Lookups.{exact_unsigned}
use Rattle.std.specs.Cmp.{nat_cmp_total}
use Rattle.std.specs.Int.{w32, w64, to_be_bytes}
use Rattle.std.specs.Ordering.{nat_cmp}
use Rattle.book_sheets.specs.declared.KeptSheet.{KeptSheet}
use Rattle.base_wire.specs.laws.Reading.{Reader}
use Rattle.base_wire.specs.Encoding.{Any, Both, encode_both, encode_code, encode_text, FitsText}
use Rattle.base_wire.specs.laws.Format.{Format}
use Rattle.base_wire.specs.laws.Formats.{both_format, made_format}
use Rattle.base_wire.specs.laws.Parts.{long_format, short_format, text_format}
use Rattle.base_wire.specs.MapBytes.{encode_map, FitsMap}
use Rattle.base_wire.specs.laws.MapLaws.{map_format}
use Rattle.grid_wire.specs.StateBytes.{state_code}
use Rattle.grid_wire.specs.NameBytes.{encode_name, FitsName}
use Rattle.grid_wire.specs.SheetBytes.{encode_sheet}
use Rattle.grid_wire.specs.laws.StateLaws.{state_format}
use Rattle.grid_wire.specs.laws.NameLaws.{name_format}
use Rattle.grid_wire.specs.laws.SheetLaws.{sheet_format, sheet_some}
use Rattle.sheet_wire.specs.laws.Reading.{sheet_change_at, state_at, new_parts_at, copy_parts_at, placed_names_at, kept_sheet_made, kept_sheet_at, deletion_parts_at, move_parts_at}
use Rattle.sheet_wire.specs.SheetsBytes.{encode_kept_sheet, FitsKeptSheet}

-- an id, or an index
abbrev pub IsShort : ℕ → Type 0
IsShort n = n < 2 ^ 32

abbrev pub encode_short : ℕ → List ℕ
encode_short = to_be_bytes w32

-- what a sheet had, and what it has
pub sheet_change_format : {A : Type 0} {F : A → Type 0} {s : A → List ℕ} {r : Reader A} → Format F s r → Format (Both IsShort (Both F F)) (encode_both encode_short (encode_both s s)) (sheet_change_at r)
sheet_change_format law = both_format short_format (both_format law law)

pub sheet_state_format : Format Any (encode_code state_code) state_at
unfolding state_at
sheet_state_format = state_format

pub new_parts_format : Format (Both IsShort (Both IsShort FitsText)) (encode_both encode_short (encode_both encode_short encode_text)) new_parts_at
new_parts_format = both_format short_format (both_format short_format text_format)

pub copy_parts_format : Format (Both IsShort (Both IsShort (Both IsShort FitsText))) (encode_both encode_short (encode_both encode_short (encode_both encode_short encode_text))) copy_parts_at
copy_parts_format = both_format short_format new_parts_format

placed_names_format : Format (FitsMap {order = nat_cmp} (λ place. place < 2 ^ 64) FitsName) (encode_map (to_be_bytes w64) encode_name) placed_names_at
unfolding placed_names_at
placed_names_format = map_format nat_cmp_total exact_unsigned long_format name_format (λ place. omega arith) (λ m. m) (λ m. m) (λ m. refl) (λ m. refl)

pub kept_sheet_format : Format FitsKeptSheet encode_kept_sheet kept_sheet_at
unfolding encode_kept_sheet kept_sheet_at
kept_sheet_format =
    made_format (both_format sheet_format placed_names_format) kept_sheet_made (λ kept. (kept.sheet, kept.names))
    (λ kept fits. (refl, (fits.sheet, fits.names))) (λ x fits. (refl, record { sheet = fits.0; names = fits.1 }))

pub kept_sheet_some : (kept : KeptSheet) → 1 ≤ length (encode_kept_sheet kept)
unfolding encode_kept_sheet
kept_sheet_some kept = omega (arith, sheet_some kept.sheet, length-append (encode_sheet kept.sheet) (encode_map (to_be_bytes w64) encode_name kept.names))

pub deletion_parts_format : Format (Both IsShort FitsKeptSheet) (encode_both encode_short encode_kept_sheet) deletion_parts_at
deletion_parts_format = both_format short_format kept_sheet_format

pub move_parts_format : Format (Both IsShort (Both IsShort IsShort)) (encode_both encode_short (encode_both encode_short encode_short)) move_parts_at
move_parts_format = both_format short_format (both_format short_format short_format)
