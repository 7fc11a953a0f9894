-- The printed numbers of rows and names of columns name those lines.
use Rattle.std.proofs.Common.{◌≡◌, ℕ, ◌^◌, ◌<◌, ◌≤◌, Bool, true, cond, [], ◌∷◌, length, get_or, ap, ◌∙◌, arith, rules}
use Rattle.std.specs.Prelude.{ℤ, pos, negsuc, nat_le, decimal, Some, None}
use Rattle.std.specs.Fmt.{signed_decimal}
use Rattle.std.specs.List.{list_all}
use Rattle.std.specs.Int.RustNames.{unsigned_abs}
use Rattle.std.proofs.lemmas.Bool.{and_from}
use Rattle.std.proofs.lemmas.Bool.Decides.{nat_tests}
use Rattle.std.proofs.lemmas.Fmt.{digits_decimal, digits_value-decimal, decimal_nonempty, first_decimal}
use Rattle.std.proofs.lemmas.Str.Parse.{IsNumeralModel, numerals_by_fold}
use Rattle.base_values.specs.Places.{is_line}
use Rattle.base_tables.specs.Column.{column_letters, column_name, column_of_name}
use Rattle.base_tables.specs.laws.ColumnLaws.{printed_column}
use Rattle.base_tables.specs.Word.{is_digit, number_after, digits_number, starts_positive, is_count}
use Rattle.formula_read.specs.Characters.{Text}
use Rattle.formula_read.specs.Lexicon.{row_of_name}

-- ---- rows

own : IsNumeralModel (λ digits. list_all is_digit digits ≡ true) (number_after 0)
own = numerals_by_fold _ (search rules) number_after (search rules)

positive : (digits : Text) → 0 < length digits → 48 < get_or digits 0 0 → starts_positive digits ≡ true
positive [] some high = absurd (omega arith)
positive (c ∷ digits) some high = grind (arith, nat_tests)

row_count : (n : ℕ) → 1 ≤ n → n ≤ 1048576 → is_count 1048576 (decimal n) ≡ true
unfolding is_count digits_number
row_count n low high =
    let small : n < 2 ^ 64 = omega arith in
    let value = digits_value-decimal own n small in
    let within : nat_le (number_after 0 (decimal n)) 1048576 ≡ true = ap (λ (x : ℕ). nat_le x 1048576) value ∙ most n high in
    and_from _ _ (digits_decimal own n small)
    (and_from _ _ (positive (decimal n) (decimal_nonempty n small) (first_decimal n (omega arith) small)) within)
  where
    most : (n : ℕ) → n ≤ 1048576 → nat_le n 1048576 ≡ true
    most n h = grind (arith, nat_tests)

row_value : (n : ℕ) → n ≤ 1048576 → digits_number (decimal n) ≡ n
unfolding digits_number
row_value n high = digits_value-decimal own n (omega arith)

pub row_named : (row : ℤ) → is_line (pos 1048576) row ≡ true → row_of_name (signed_decimal row) ≡ Some row
row_named (pos n) inside =
    let low : 1 ≤ n = grind (arith, nat_tests, inside) in
    let high : n ≤ 1048576 = grind (arith, nat_tests, inside) in
    ap (λ (b : Bool). cond b (Some (pos (digits_number (decimal n)))) None) (row_count n low high) ∙ ap (λ (x : ℕ). Some (pos x)) (row_value n high)
row_named (negsuc n) inside = absurd cc

-- ---- columns

pub column_printed : (column : ℤ) → is_line (pos 16384) column ≡ true → (name : Text) × (column_name column ≡ Some name) × (column_of_name name ≡ Some column)
unfolding column_name
column_printed column inside =
    let is = ap (λ (b : Bool). cond b (Some (column_letters (unsigned_abs column))) None) inside in
    (column_letters (unsigned_abs column), is, printed_column column (column_letters (unsigned_abs column)) is)
