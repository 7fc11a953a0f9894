-- The name of a place names it.
use Rattle.std.proofs.Common.{◌≡◌, ℕ, ℤ, pos, ◌+◌, ◌/◌, ◌%◌, ◌^◌, ◌<◌, ◌≤◌, ◌≤ℤ◌, Bool, true, false, cond, List, [], ◌∷◌, ◌++◌, length, take, drop, Option, Some, None, refl, sym, ap, ◌∙◌, arith}
use Rattle.std.specs.Prelude.{◌&&◌, negsuc, decimal, nat_le, if◌then◌else◌}
use Rattle.std.specs.Option.{option_and_then, option_map}
use Rattle.std.specs.List.{list_all, prefix_len}
use Rattle.std.proofs.lemmas.Bool.{and_parts, le-leb}
use Rattle.std.proofs.lemmas.Bool.Decides.{nat_tests}
use Rattle.std.proofs.lemmas.Int.{ints}
use Rattle.std.proofs.lemmas.Fmt.{decimal_by_steps, length-decimal-le, decimal_nonempty}
use Rattle.std.proofs.Math.Seq.{take-append_seam, drop-append_seam}
use Rattle.script_lines.specs.Number.{is_digit, are_digits, value_of}
use Rattle.base_tables.specs.Column.{is_between, is_letter, letters_number, number_a_column, is_column_name, column_of_name, column_letters}
use Rattle.base_tables.specs.laws.ColumnLaws.{letters_name_column}
use Rattle.script_lines.specs.References.{read_column, read_row, letters_of, digits_of, reference_of, reference_text, IsReadAgain}
use Rattle.script_lines.specs.declared.reference.Reference.{Reference}
use Rattle.script_lines.proofs.Digits.{value_of-push}

both_and : (a b : Bool) → a ≡ true → b ≡ true → a && b ≡ true
both_and a b e f = ap (λ x. x && b) e ∙ f

-- ---- digits

list_all-append : (p : ℕ → Bool) (x y : List ℕ) → list_all p x ≡ true → list_all p y ≡ true → list_all p (x ++ y) ≡ true
list_all-append p [] y e f = f
list_all-append p (b ∷ x) y e f = let h = and_parts (p b) (list_all p x) e in both_and _ _ h.0 (list_all-append p x y h.1 f)

digit_so : (d : ℕ) → d < 10 → is_digit (48 + d) ≡ true
digit_so d h = grind (arith, nat_tests)

record IsDecimal (n : ℕ) (s : List ℕ) : Type 0 where
  all : are_digits s ≡ true
  value : value_of s ≡ n

decimal_one : (n : ℕ) → n < 10 → IsDecimal n ((48 + n) ∷ [])
decimal_one n h = record { all = both_and _ _ (digit_so n h) refl; value = omega arith }

decimal_more : (n : ℕ) (ds : List ℕ) → 10 ≤ n → IsDecimal (n / 10) ds → IsDecimal n (ds ++ ((48 + n % 10) ∷ []))
decimal_more n ds h i = record {
  all = list_all-append is_digit ds ((48 + n % 10) ∷ []) i.all (both_and _ _ (digit_so (n % 10) (omega arith)) refl);
  value = omega (arith, value_of-push ds (48 + n % 10), i.value);
}

decimal_so : (n : ℕ) → n < 2 ^ 64 → IsDecimal n (decimal n)
decimal_so = decimal_by_steps IsDecimal decimal_one decimal_more

-- ---- letters and digits

digit_no_letter : (b : ℕ) → is_digit b ≡ true → is_letter b ≡ false
digit_no_letter b e = grind (arith, nat_tests)

no_letters : (digits : List ℕ) → are_digits digits ≡ true → prefix_len is_letter digits ≡ 0
no_letters [] e = refl
no_letters (b ∷ digits) e = ap (λ t. cond t (1 + prefix_len is_letter digits) 0) (digit_no_letter b (and_parts _ _ e).0)

letters_end : (letters digits : List ℕ) → list_all is_letter letters ≡ true → are_digits digits ≡ true → prefix_len is_letter (letters ++ digits) ≡ length letters
letters_end [] digits e f = no_letters digits f
letters_end (b ∷ letters) digits e f =
    let h = and_parts (is_letter b) (list_all is_letter letters) e in
    let rest = letters_end letters digits h.1 f in
    ap (λ t. cond t (1 + prefix_len is_letter (letters ++ digits)) 0) h.0 ∙ omega arith

-- one to three letters with this number
record AreLetters (n : ℕ) (text : List ℕ) : Type 0 where
  all : list_all is_letter text ≡ true
  few : is_between 1 3 (length text) ≡ true
  number : letters_number text ≡ n

nothing_there : (n : ℕ) → Some (pos n) ≡ None → ⊥
nothing_there n e = cc

parts_of_name : (n : ℕ) (text : List ℕ) (named : Bool) → is_column_name text ≡ named → (if named then Some (pos (letters_number text)) else None) ≡ Some (pos n) → AreLetters n text
unfolding is_column_name
parts_of_name n text true e f =
    let parts = and_parts (list_all is_letter text) (number_a_column text) e in
    let counted = and_parts (is_between 1 3 (length text)) (nat_le (letters_number text) 16384) parts.1 in
    record { all = parts.0; few = counted.0; number = cc }
parts_of_name n text false e f = absurd (nothing_there n (sym f))

-- the letters of a column are one to three, and its number is theirs
column_letters_are : (n : ℕ) → 1 ≤ n → n ≤ 16384 → AreLetters n (column_letters n)
unfolding column_of_name
column_letters_are n low high = parts_of_name n (column_letters n) (is_column_name (column_letters n)) refl (letters_name_column n low high)

record Named (column row : ℕ) (letters digits : List ℕ) : Type 0 where
  column_so : AreLetters column letters
  row_so : IsDecimal row digits
  row_few : is_between 1 7 (length digits) ≡ true

named_reads : (column row : ℕ) (letters digits : List ℕ) → Named column row letters digits → reference_of (letters ++ digits) ≡ Some (record { row = pos row; column = pos column })
named_reads column row letters digits n =
    let len = letters_end letters digits n.column_so.all n.row_so.all in
    let front : letters_of (letters ++ digits) ≡ letters = ap (λ k. take k (letters ++ digits)) len ∙ take-append_seam letters digits in
    let back : digits_of (letters ++ digits) ≡ digits = ap (λ k. drop k (letters ++ digits)) len ∙ drop-append_seam letters digits in
    let first : read_column letters ≡ Some column = ap (λ t. cond t (Some (letters_number letters)) None) n.column_so.few ∙ ap Some n.column_so.number in
    let second : read_row digits ≡ Some row = ap (λ t. cond t (Some (value_of digits)) None) (both_and _ _ n.row_few n.row_so.all) ∙ ap Some n.row_so.value in
    let whole : List ℕ → List ℕ → Option Reference = λ l d. option_and_then (λ c. option_map (λ r. record { row = pos r; column = pos c }) (read_row d)) (read_column l) in
    let output : Option ℕ → Option ℕ → Option Reference = λ c r. option_and_then (λ c. option_map (λ r. record { row = pos r; column = pos c }) r) c in
    (λ i. whole (front i) (back i)) ∙ (λ i. output (first i) (second i))

pub read_again : IsReadAgain
read_again place h = go place.row place.column h.0 h.1
  where
    go : (row column : ℤ) → (pos 1 ≤ℤ row) × (row ≤ℤ pos 1048576) → (pos 1 ≤ℤ column) × (column ≤ℤ pos 16384)
        → reference_of (reference_text (record { row = row; column = column })) ≡ Some (record { row = row; column = column })
    go (pos r) (pos c) x y =
        let fits : r < 2 ^ 64 = omega (arith, ints, x) in
        let some = decimal_nonempty r fits in
        let few : length (decimal r) ≤ 7 = length-decimal-le 7 r (omega arith) (omega (arith, ints, x)) fits in
        named_reads c r (column_letters c) (decimal r) (record {
          column_so = column_letters_are c (omega (arith, ints, y)) (omega (arith, ints, y));
          row_so = decimal_so r fits;
          row_few = both_and _ _ (le-leb 1 (length (decimal r)) some) (le-leb (length (decimal r)) 7 few);
        })
    go (negsuc r) column x y = absurd (omega (arith, ints, x))
    go (pos r) (negsuc c) x y = absurd (omega (arith, ints, y))
