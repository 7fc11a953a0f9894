use Rattle.std.proofs.Common.{◌≡◌, ◌-◌, ◌+◌, length}
use Rattle.std.specs.String.{string_bytes}
use Rattle.sheet_grid.specs.Book.{names_of}
use Rattle.sheet_naming.specs.FreeNames.{is_taken, least_free}
use Rattle.sheet_naming.specs.Texts.{text_of}
use Rattle.sheet_naming.proofs.names.free_text.Given as goal

-- the numbers that are still to be tried give the same one
abbrev pub invariant-loop : goal.invariant-loop
invariant-loop l = record {
  number : (l.n ≡ l.first + l.counter);
  text : (string_bytes l.text ≡ text_of l.texts l.n);
  same : (least_free (λ n. is_taken (names_of l.sheets) (text_of l.texts n)) l.n (l.end - l.counter)
      ≡ least_free (λ n. is_taken (names_of l.sheets) (text_of l.texts n)) l.first (length l.sheets));
}
