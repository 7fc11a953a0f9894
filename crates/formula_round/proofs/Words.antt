-- Where words, numbers and lines stand, and where no cell and no range begins with them.
use Rattle.std.proofs.Common.{◌≡◌, ℕ, suc, ◌+◌, ◌<◌, Bool, true, false, cond, [], ◌∷◌, ◌++◌, take, drop, refl, sym, ap, ◌∙◌, arith}
use Rattle.std.specs.Prelude.{ℤ, not, ◌==◌, ◌||◌, Option, Some, None}
use Rattle.std.specs.List.{list_all, prefix_len}
use Rattle.std.proofs.lemmas.Bool.{and_from, and_parts}
use Rattle.std.proofs.lemmas.Bool.Decides.{nat_tests}
use Rattle.base_tables.specs.Column.{is_letter, is_column_name, column_of_name}
use Rattle.base_tables.specs.Word.{is_digit, is_row_number, is_word, begins_word, goes_on_word, front, behind, reads_as_cell}
use Rattle.base_decimal.proofs.Spans.{not_true}
use Rattle.base_decimal.specs.Digits.{stops}
use Rattle.formula_grammar.specs.declared.CellMark.{CellMark}
use Rattle.formula_read.specs.Characters.{Text, goes_on_place}
use Rattle.formula_read.specs.Lexicon.{dollar, row_of_name, IsLine, IsCell, NoCell, NoRange}
use Rattle.formula_round.proofs.Characters.{in_cell, in_word, ascii_word, ascii_starts}
use Rattle.formula_round.proofs.Fronts.{Sides, two_cells, two_columns, two_rows, if_some, weaker, all_parted, row_digits_all, column_letters_all, no_cell_in}
use Rattle.formula_round.proofs.Fronts.{no_range_in}

-- ---- the longest front

front_parts : (p : ℕ → Bool) (s rest : Text) → list_all p s ≡ true → stops p rest ≡ true → (front p (s ++ rest) ≡ s) × (behind p (s ++ rest) ≡ rest)
front_parts p [] [] all ends = (refl, refl)
front_parts p [] (c ∷ rest) all ends =
    let no : p c ≡ false = not_true (p c) ends in
    (ap (λ (b : Bool). take (cond b (1 + prefix_len p rest) 0) (c ∷ rest)) no, ap (λ (b : Bool). drop (cond b (1 + prefix_len p rest) 0) (c ∷ rest)) no)
front_parts p (c ∷ s) rest all ends =
    let k = and_parts (p c) (list_all p s) all in
    let again = front_parts p s rest k.1 ends in
    let next : 1 + prefix_len p (s ++ rest) ≡ suc (prefix_len p (s ++ rest)) = omega arith in
    let is : prefix_len p (c ∷ s ++ rest) ≡ suc (prefix_len p (s ++ rest)) = ap (λ (b : Bool). cond b (1 + prefix_len p (s ++ rest)) 0) k.0 ∙ next in
    (ap (λ (n : ℕ). take n (c ∷ s ++ rest)) is ∙ ap (λ (x : Text). c ∷ x) again.0, ap (λ (n : ℕ). drop n (c ∷ s ++ rest)) is ∙ again.1)

-- ---- words

pub word_goes_on : (s : Text) → is_word s ≡ true → list_all goes_on_word s ≡ true
unfolding is_word
word_goes_on s e = (and_parts (begins_word s) (list_all goes_on_word s) e).1

dollar_no_word : goes_on_word 36 ≡ false
unfolding in_word
dollar_no_word = ascii_word 36 (omega arith)

colon_no_word : goes_on_word 58 ≡ false
unfolding in_word
colon_no_word = ascii_word 58 (omega arith)

-- a word of ASCII letters and dots that begins with a letter
pub letters_word : (c : ℕ) (s : Text) → is_letter c ≡ true → list_all (λ d. is_letter d || d == 46) s ≡ true → is_word (c ∷ s) ≡ true
unfolding is_word in_word
letters_word c s first all =
    and_from _ _ (ascii_starts c (low c first) ∙ ap (λ (b : Bool). b || c == 95) first)
    (and_from _ _ (letter_goes_on c (low c first) (ap (λ (b : Bool). b || c == 46) first)) (rest s all))
  where
    low : (d : ℕ) → is_letter d ≡ true → d < 128
    low d e = grind (arith, nat_tests)

    low_dot : (d : ℕ) → is_letter d || d == 46 ≡ true → d < 128
    low_dot d e = grind (arith, nat_tests)

    into : (d : ℕ) → is_letter d || d == 46 ≡ true → in_word d ≡ true
    into d e = grind (arith, nat_tests)

    letter_goes_on : (d : ℕ) → d < 128 → is_letter d || d == 46 ≡ true → goes_on_word d ≡ true
    letter_goes_on d l e = ascii_word d l ∙ into d e

    rest : (z : Text) → list_all (λ d. is_letter d || d == 46) z ≡ true → list_all goes_on_word z ≡ true
    rest = weaker (λ d. is_letter d || d == 46) goes_on_word (λ d e. letter_goes_on d (low_dot d e) e)

goes_on_more : (c : ℕ) → goes_on_word c ≡ true → goes_on_place c ≡ true
goes_on_more c e = ap (λ (b : Bool). b || (c == 36 || (c == 33 || c == 40))) e

goes_on_no_colon : (c : ℕ) → goes_on_word c ≡ true → not (c == 58) ≡ true
goes_on_no_colon c e = go (c == 58) refl
  where
    go : (b : Bool) → (c == 58) ≡ b → not (c == 58) ≡ true
    go true f = let is : c ≡ 58 = grind (arith, nat_tests) in let x : true ≡ false = sym e ∙ ap goes_on_word is ∙ colon_no_word in absurd cc
    go false f = ap not f

-- ---- cells that are words

-- a line without a dollar is its name
line_name : (line_of_name : Text → Option ℤ) (absolute : Bool) (line : ℤ) (s : Text) → list_all goes_on_word s ≡ true → IsLine line_of_name absolute line s
    → line_of_name s ≡ Some line
line_name line_of_name absolute line s all is = go absolute is.parts
  where
    go : (absolute : Bool) → s ≡ dollar absolute ++ is.name → line_of_name s ≡ Some line
    go true parts =
        let yes = (and_parts (goes_on_word 36) _ (sym (ap (list_all goes_on_word) parts) ∙ all)).0 in
        let x : true ≡ false = sym yes ∙ dollar_no_word in absurd cc
    go false parts = ap line_of_name parts ∙ is.named

digits_no_letter : (name : Text) → list_all is_digit name ≡ true → stops is_letter name ≡ true
digits_no_letter [] e = refl
digits_no_letter (c ∷ name) e = let digit = (and_parts (is_digit c) _ e).0 in no_letter c digit
  where
    no_letter : (c : ℕ) → is_digit c ≡ true → not (is_letter c) ≡ true
    no_letter c h = grind (arith, nat_tests, h)

names_read : (first second : Text) (column row : ℤ) → column_of_name first ≡ Some column → row_of_name second ≡ Some row
    → reads_as_cell (first ++ second) ≡ true
unfolding reads_as_cell column_of_name
names_read first second column row is at =
    let parts = front_parts is_letter first second (column_letters_all first column is) (digits_no_letter second (row_digits_all second row at)) in
    and_from _ _ (ap is_column_name parts.0 ∙ if_some (is_column_name first) _ column is) (ap is_row_number parts.1 ∙ if_some (is_row_number second) _ row at)

cell_reads : (mark : CellMark) (s : Text) → list_all goes_on_word s ≡ true → IsCell mark s → reads_as_cell s ≡ true
cell_reads mark s all is =
    let parts = all_parted goes_on_word is.first is.second (sym (ap (list_all goes_on_word) is.parts) ∙ all) in
    ap reads_as_cell is.parts
    ∙ names_read is.first is.second mark.column mark.row (line_name column_of_name mark.absolute_column mark.column is.first parts.0 is.is_first)
    (line_name row_of_name mark.absolute_row mark.row is.second parts.1 is.is_second)

-- ---- no cell

-- a word that reads as no cell
pub word_no_cell : (s rest : Text) → list_all goes_on_word s ≡ true → reads_as_cell s ≡ false → stops in_cell rest ≡ true → NoCell None (s ++ rest)
word_no_cell s rest all none ends =
    no_cell_in s rest (weaker goes_on_word goes_on_place goes_on_more s all) ends (λ mark is stop. absurd (let x = sym (cell_reads mark s all is) ∙ none in cc))

-- a word before a character that goes on a place
pub word_no_cell_before : (s : Text) (c : ℕ) (rest : Text) → list_all goes_on_word s ≡ true → in_cell c ≡ false → goes_on_place c ≡ true
    → NoCell None (s ++ (c ∷ rest))
word_no_cell_before s c rest all no_cell goes_on =
    no_cell_in s (c ∷ rest) (weaker goes_on_word goes_on_place goes_on_more s all) (ap not no_cell)
    (λ mark is stop. absurd (let x : false ≡ true = sym (ap not goes_on) ∙ stop in cc))

-- ---- no range

pub no_colon_no_range : (s rest : Text) → list_all (λ c. not (c == 58)) s ≡ true → stops in_cell rest ≡ true → stops (λ c. c == 58) rest ≡ true
    → NoRange None (s ++ rest)
no_colon_no_range s rest all ends none =
    no_range_in s rest all ends (λ a b second behind e stop sides. absurd (let x : false ≡ true = sym (ap (stops (λ c. c == 58)) e) ∙ none in cc))

-- a word before no colon
pub word_no_range : (s rest : Text) → list_all goes_on_word s ≡ true → stops in_cell rest ≡ true → stops (λ c. c == 58) rest ≡ true → NoRange None (s ++ rest)
word_no_range s rest all ends none = no_colon_no_range s rest (weaker goes_on_word (λ c. not (c == 58)) goes_on_no_colon s all) ends none

-- a word that reads as no cell, no column and no row
pub no_side_no_range : (s rest : Text) → list_all goes_on_word s ≡ true → reads_as_cell s ≡ false → column_of_name s ≡ None → row_of_name s ≡ None
    → stops in_cell rest ≡ true → NoRange None (s ++ rest)
no_side_no_range s rest all no_cell no_column no_row ends =
    no_range_in s rest (weaker goes_on_word (λ c. not (c == 58)) goes_on_no_colon s all) ends (λ a b second behind e stop sides. by a b second sides)
  where
    by : (a b : CellMark) (second : Text) → Sides a b s second → ⊥
    by a b second (two_cells is at) = let x = sym (cell_reads a s all is) ∙ no_cell in cc
    by a b second (two_columns is at) = let x = sym (line_name column_of_name a.absolute_column a.column s all is) ∙ no_column in cc
    by a b second (two_rows is at) = let x = sym (line_name row_of_name a.absolute_row a.row s all is) ∙ no_row in cc
