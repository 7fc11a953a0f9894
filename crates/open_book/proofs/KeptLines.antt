-- What an edit of lines keeps of a well-formed workbook.
use Rattle.std.proofs.Common.{◌≡◌, ℕ, ℤ, Bool, true, false, cond, Option, Some, None, refl, sym, subst}
use Rattle.std.specs.Prelude.{IfSome, is_none}
use Rattle.std.specs.Ordering.{int_cmp}
use Rattle.std.specs.Cmp.{int_cmp_total}
use Rattle.std.specs.FinMap.{get, get-empty}
use Rattle.std.proofs.lemmas.Map.Lookups.{exact_signed}
use Rattle.base_axis.specs.Along.{Along}
use Rattle.line_edits.specs.declared.EditKind.{EditKind}
use Rattle.line_edits.specs.Edit.{image_at}
use Rattle.base_maps.specs.laws.Gathering.{get-lost_map}
use Rattle.sheet_grid.specs.declared.LineAttr.{LineAttr}
use Rattle.sheet_grid.specs.Sheet.{Sheet}
use Rattle.sheet_grid.specs.Book.{Book}
use Rattle.sheet_rules.specs.WellFormed.{have_attributes, IsWellFormed}
use Rattle.sheet_lines.specs.Followed.{book_route}
use Rattle.sheet_lines.specs.Kept.{lines_of, edited_kept, kept_lines}
use Rattle.sheet_ids.specs.Ids.{sheet_of}
use Rattle.sheet_history.specs.laws.RuleLaws.{sheet_rules}
use Rattle.sheet_wire.specs.laws.Fitting.{IsKeptOfLines}
use Rattle.sheet_wire.specs.laws.KnownBooks.{IsOwn, own_lines}

some_or_none : (b : Bool) (o : Option LineAttr) → IfSome o IsOwn → IfSome (cond b o None) IsOwn
some_or_none true o own = own
some_or_none false o own = tt

lost_own : (a : Along) (e : EditKind) (id : ℕ) (book : Book) (o : Option Sheet) → ((sheet : Sheet) → o ≡ Some sheet → have_attributes sheet ≡ true) → (line : ℤ) → IfSome (get (edited_kept (book_route a e id book) o).lines line) IsOwn
lost_own a e id book None all line = subst (λ (o : Option LineAttr). IfSome o IsOwn) (sym (get-empty int_cmp line)) tt
lost_own a e id book (Some sheet) all line =
    subst (λ (o : Option LineAttr). IfSome o IsOwn) (sym (get-lost_map int_cmp int_cmp_total exact_signed (image_at a.last e) (lines_of a sheet) line))
    (some_or_none (is_none (image_at a.last e line)) (get (lines_of a sheet) line) (own_lines sheet (all sheet refl) (a.of true false) line))

-- of each line it keeps something of its own
pub kept_of_lines : (a : Along) (e : EditKind) (id : ℕ) (book : Book) → IsWellFormed book → IsKeptOfLines (kept_lines a e id book)
kept_of_lines a e id book rules = lost_own a e id book (sheet_of book id) (λ sheet found. (sheet_rules book rules id sheet found).attributes)
