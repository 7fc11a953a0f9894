-- Reading workbooks, and the laws of their bytes.
use Rattle.std.proofs.Common.{◌≡◌, ℕ, List, Result, Ok, Err, refl, ap, sym, ◌∙◌}
use Rattle.base_values.specs.Answers.{Answers}
use Rattle.base_values.specs.declared.EditError.{EditError}
use Rattle.base_values.specs.declared.EditError.TheVariants.{NoMemory, ParseDiffs, ParseWorkbook}
use Rattle.base_tables.specs.declared.Locale.{Locale}
use Rattle.base_tables.specs.declared.Zone.{Zone}
use Rattle.base_styles.specs.declared.Theme.{Theme}
use Rattle.defined_names.specs.declared.DefinedName.{DefinedName}
use Rattle.sheet_grid.specs.Book.{Book}
use Rattle.sheet_grid.specs.Sheet.{Sheet}
use Rattle.base_wire.specs.Reads.{HasNoFront, Read, ReadsWhole}
use Rattle.base_wire.specs.laws.Encoded.{IsBytes}
use Rattle.base_wire.specs.laws.Format.{Format, list_format}
use Rattle.base_wire.specs.laws.Formats.{after_format, both_format, made_format}
use Rattle.base_wire.specs.laws.Parts.{text_format}
use Rattle.base_wire.specs.laws.Reading.{Reader, ◌>>=◌, ◌⊗◌, after, count_at, counted_after, list_at, map_at, text_at, whole}
use Rattle.base_wire.specs.laws.Whole.{no_front, reads_otherwise, reads_whole}
use Rattle.grid_wire.specs.BookBytes.{book_magic, encode_book, FitsBook, IsBook}
use Rattle.grid_wire.specs.NameBytes.{encode_names, FitsNames}
use Rattle.grid_wire.specs.laws.FrontLaws.{AsksCount, front_refused, text_asks}
use Rattle.grid_wire.specs.laws.NameLaws.{name_format, name_some}
use Rattle.grid_wire.specs.laws.Reading.{name_at, sheet_at}
use Rattle.grid_wire.specs.laws.SettingFormats.{locale_format, theme_format, zone_format}
use Rattle.grid_wire.specs.laws.SettingReading.{locale_at, theme_at, zone_at}
use Rattle.grid_wire.specs.laws.SheetLaws.{sheet_format, sheet_some}

-- ---- reading

abbrev pub Settings : Type 0
Settings = List ℕ × (Locale × (Zone × Theme))

abbrev pub settings_at : Reader Settings
settings_at = text_at ⊗ locale_at ⊗ zone_at ⊗ theme_at

unfoldable pub names_at : Reader (List DefinedName)
names_at = list_at name_at

abbrev pub book_made : Settings × (List DefinedName × List Sheet) → Book
book_made x = record { name = x.0.0; locale = x.0.1.0; zone = x.0.1.1.0; theme = x.0.1.1.1; names = x.1.0; worksheets = x.1.1 }

abbrev pub book_at : Reader Book
book_at = map_at book_made (settings_at ⊗ (names_at ⊗ list_at sheet_at))

unfoldable pub book_of : List ℕ → Result Book EditError
book_of = whole (after book_magic book_at)

-- ---- what is read was encoded so, and what is encoded is read

pub names_format : Format FitsNames encode_names names_at
unfolding names_at
names_format = list_format name_format name_some

book_format : Format FitsBook encode_book (after book_magic book_at)
unfolding encode_book
book_format =
    after_format
    (made_format
    (both_format (both_format text_format (both_format locale_format (both_format zone_format theme_format))) (both_format names_format (list_format sheet_format sheet_some)))
    book_made (λ book. ((book.name, (book.locale, (book.zone, book.theme))), (book.names, book.worksheets)))
    (λ book fits. (refl, ((fits.name, (tt, (tt, fits.theme))), (fits.names, fits.sheets))))
    (λ x fits. (refl, record { name = fits.0.0; theme = fits.0.1.1.1; names = fits.1.0; sheets = fits.1.1 })))
    book_magic refl

-- what answers as the steps of the reader reads the bytes of workbooks
pub book_reads : (bytes : List ℕ) (result : Result Book EditError) → IsBytes bytes → Answers result (book_of bytes) → ReadsWhole IsBook ParseDiffs bytes result
unfolding book_of
book_reads bytes result small h = reads_whole book_format bytes result small h

-- ---- the front

abbrev paired : {A B : Type 0} → A × List ℕ → B × List ℕ → Read (A × B)
paired x y = Ok ((x.0, y.0), y.1)

then_refused : {A B : Type 0} (next : Reader B) (e : EditError) (r : Read A) → r ≡ Err e → (r >>= λ x. next x.1 >>= λ y. paired x y) ≡ Err e
then_refused next e (Ok x) h = absurd cc
then_refused next e (Err d) h = let p : d ≡ e = cc in ap Err p

abbrev made : {A B : Type 0} → (A → B) → A × List ℕ → Read B
made f x = Ok (f x.0, x.1)

made_refused : {A B : Type 0} (f : A → B) (e : EditError) (r : Read A) → r ≡ Err e → (r >>= λ x. made f x) ≡ Err e
made_refused f e (Ok x) h = absurd cc
made_refused f e (Err d) h = let p : d ≡ e = cc in ap Err p

book_asks : AsksCount book_at
book_asks bytes e refused =
    made_refused book_made e ((settings_at ⊗ (names_at ⊗ list_at sheet_at)) bytes)
    (then_refused (names_at ⊗ list_at sheet_at) e (settings_at bytes) (then_refused (locale_at ⊗ zone_at ⊗ theme_at) e (text_at bytes) (text_asks bytes e refused)))

-- bytes that do not begin as a workbook's are refused as such
pub book_refused : (bytes : List ℕ) (e : EditError) → counted_after book_magic bytes ≡ Err e → book_of bytes ≡ Err e
unfolding book_of
book_refused bytes e refused = front_refused book_at book_asks book_magic bytes e refused

-- they are refused at once
pub no_book_front : (bytes : List ℕ) → HasNoFront book_magic bytes → counted_after book_magic bytes ≡ Err ParseDiffs
no_book_front bytes none = no_front book_magic bytes refl none

-- and with nothing but the refusal
pub front_error : (bytes : List ℕ) (e : EditError) → counted_after book_magic bytes ≡ Err e → HasNoFront book_magic bytes → e ≡ ParseDiffs
front_error bytes e refused none = let both : ◌≡◌ {A = Result (List ℕ) EditError} (Err e) (Err ParseDiffs) = sym refused ∙ no_book_front bytes none in cc

pub front_never : (bytes rest : List ℕ) → counted_after book_magic bytes ≡ Ok rest → HasNoFront book_magic bytes → ⊥
front_never bytes rest read none = let both : ◌≡◌ {A = Result (List ℕ) EditError} (Ok rest) (Err ParseDiffs) = sym read ∙ no_book_front bytes none in absurd cc

-- ---- the word for the refusal

-- what is no workbook's is refused with this word
abbrev pub workbook_refusal : EditError → EditError
workbook_refusal NoMemory = NoMemory
workbook_refusal error = ParseWorkbook

pub read_says : (bytes : List ℕ) (book : Book) → ReadsWhole IsBook ParseDiffs bytes (Ok book) → ReadsWhole IsBook ParseWorkbook bytes (Ok book)
read_says bytes book reads = record { encoded = reads.encoded; again = reads.again; refused = tt }

pub refusal_says : (bytes : List ℕ) (e : EditError) → ReadsWhole IsBook ParseDiffs bytes (Err e) → ReadsWhole IsBook ParseWorkbook bytes (Err (workbook_refusal e))
refusal_says bytes NoMemory reads = record { encoded = tt; again = reads.again; refused = λ other. absurd (other refl) }
refusal_says bytes e reads = reads_otherwise e ParseWorkbook reads (λ is. cc)
