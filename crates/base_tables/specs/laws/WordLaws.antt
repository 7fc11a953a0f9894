-- A text that reads as a cell is ASCII, so that its bytes are its characters.
use Rattle.std.proofs.Common.{◌≡◌, ℕ, zero, suc, ◌+◌, ◌<◌, Bool, true, false, cond, List, [], ◌∷◌, drop, refl, sym, ap, subst, ◌∙◌, arith}
use Rattle.std.proofs.lemmas.Bool.Decides.{nat_tests}
use Rattle.std.proofs.lemmas.Str.{encodes-IsAscii, chars_from_encodes}
use Rattle.std.specs.Prelude.{nat_lt, ◌==◌, ◌||◌, encode_utf8_all}
use Rattle.std.specs.List.{list_all, prefix_len}
use Rattle.std.specs.Str.{chars, IsUtf8, IsAscii}
use Rattle.base_tables.specs.laws.Tables.{both, both_parts}
use Rattle.base_tables.specs.Column.{is_letter}
use Rattle.base_tables.specs.Word.{is_digit, is_count, behind, reads_as_cell, is_column_part, reads_as_row_column}

abbrev is_ascii : ℕ → Bool
is_ascii c = nat_lt c 128

ascii_letter : (c : ℕ) → is_letter c ≡ true → is_ascii c ≡ true
ascii_letter c e = grind (arith, nat_tests)

ascii_digit : (c : ℕ) → is_digit c ≡ true → is_ascii c ≡ true
ascii_digit c e = grind (arith, nat_tests)

ascii_row_mark : (c : ℕ) → c == 82 || c == 114 ≡ true → is_ascii c ≡ true
ascii_row_mark c e = grind (arith, nat_tests)

ascii_column_mark : (c : ℕ) → c == 67 || c == 99 ≡ true → is_ascii c ≡ true
ascii_column_mark c e = grind (arith, nat_tests)

all_ascii : (p : ℕ → Bool) → ((c : ℕ) → p c ≡ true → is_ascii c ≡ true) → (text : List ℕ) → list_all p text ≡ true → list_all is_ascii text ≡ true
all_ascii p h [] e = refl
all_ascii p h (c ∷ text) e = let parts = both_parts (p c) (list_all p text) e in both _ _ (h c parts.0) (all_ascii p h text parts.1)

front_by : (p : ℕ → Bool) → ((c : ℕ) → p c ≡ true → is_ascii c ≡ true) → (c : ℕ) (text : List ℕ) (b : Bool) → p c ≡ b → (list_all is_ascii (behind p text) ≡ true → list_all is_ascii text ≡ true)
    → list_all is_ascii (drop (cond b (1 + prefix_len p text) 0) (c ∷ text)) ≡ true → list_all is_ascii (c ∷ text) ≡ true
front_by p h c text true is rest e =
    let next : 1 + prefix_len p text ≡ suc (prefix_len p text) = omega arith in
    both _ _ (h c is) (rest (subst (λ (n : ℕ). list_all is_ascii (drop n (c ∷ text)) ≡ true) next e))
front_by p h c text false is rest e = e

-- a front of ASCII, and then ASCII
front_ascii : (p : ℕ → Bool) → ((c : ℕ) → p c ≡ true → is_ascii c ≡ true) → (text : List ℕ) → list_all is_ascii (behind p text) ≡ true → list_all is_ascii text ≡ true
front_ascii p h [] e = refl
front_ascii p h (c ∷ text) e = front_by p h c text (p c) refl (front_ascii p h text) e

count_ascii : (last : ℕ) (text : List ℕ) → is_count last text ≡ true → list_all is_ascii text ≡ true
unfolding is_count
count_ascii last text e = all_ascii is_digit ascii_digit text (both_parts _ _ e).0

cell_ascii : (text : List ℕ) → reads_as_cell text ≡ true → list_all is_ascii text ≡ true
unfolding reads_as_cell
cell_ascii text e = front_ascii is_letter ascii_letter text (count_ascii 1048576 (behind is_letter text) (both_parts _ _ e).1)

column_part_ascii : (text : List ℕ) → is_column_part text ≡ true → list_all is_ascii text ≡ true
column_part_ascii [] e = refl
column_part_ascii (c ∷ digits) e = let parts = both_parts (c == 67 || c == 99) _ e in both _ _ (ascii_column_mark c parts.0) (count_ascii 16384 digits parts.1)

row_column_ascii : (text : List ℕ) → reads_as_row_column text ≡ true → list_all is_ascii text ≡ true
unfolding reads_as_row_column
row_column_ascii [] e = refl
row_column_ascii (c ∷ text) e =
    let parts = both_parts (c == 82 || c == 114) _ e in
    both _ _ (ascii_row_mark c parts.0) (front_ascii is_digit ascii_digit text (column_part_ascii (behind is_digit text) (both_parts _ _ parts.1).1))

below : (c : ℕ) → is_ascii c ≡ true → c < 128
below c e = grind (arith, nat_tests)

each_ascii : (text : List ℕ) → list_all is_ascii text ≡ true → IsAscii text
each_ascii [] e i = omega arith
each_ascii (c ∷ text) e zero = below c (both_parts _ _ e).0
each_ascii (c ∷ text) e (suc i) = each_ascii text (both_parts _ _ e).1 i

either : (a b : Bool) → (a ≡ true → a ≡ b) → (b ≡ true → a ≡ b) → a ≡ b
either true b f g = f refl
either false true f g = g refl
either false false f g = refl

-- a test that only ASCII passes says the same of characters as of bytes
module _ (p : List ℕ → Bool) (ascii : (text : List ℕ) → p text ≡ true → list_all is_ascii text ≡ true) where
  p-chars : (text : List ℕ) → IsUtf8 text → p (chars text) ≡ p text
  p-chars text whole =
      let spells : encode_utf8_all whole.0 ≡ text = whole.1.1 in
      let is : whole.0 ≡ chars text = chars_from_encodes whole.0 text whole spells in
      either (p (chars text)) (p text)
      (λ e. let plain : IsAscii whole.0 = each_ascii whole.0 (ascii whole.0 (ap p is ∙ e)) in ap p (sym is ∙ sym (encodes-IsAscii whole.0 plain) ∙ spells))
      (λ e. let plain : IsAscii text = each_ascii text (ascii text e) in ap p (sym (chars_from_encodes text text whole (encodes-IsAscii text plain))))

pub reads_as_cell-chars : (text : List ℕ) → IsUtf8 text → reads_as_cell (chars text) ≡ reads_as_cell text
reads_as_cell-chars = p-chars reads_as_cell cell_ascii

pub reads_as_row_column-chars : (text : List ℕ) → IsUtf8 text → reads_as_row_column (chars text) ≡ reads_as_row_column text
reads_as_row_column-chars = p-chars reads_as_row_column row_column_ascii
