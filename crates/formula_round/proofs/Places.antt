-- Where cells, columns, rows and sheets stand, and where no cell and no range begins with them.
use Rattle.std.proofs.Common.{◌≡◌, ◌≢◌, ℕ, Bool, true, false, cond, [], ◌∷◌, ◌++◌, refl, sym, ap, subst, ◌∙◌, append_assoc, arith}
use Rattle.std.specs.Prelude.{not, ◌==◌, ◌||◌, encode_utf8_all, Some, None}
use Rattle.std.specs.List.{list_all}
use Rattle.std.specs.Str.{chars, IsUtf8}
use Rattle.std.proofs.lemmas.Bool.{and_from, and_parts, or_parts, or_right}
use Rattle.std.proofs.lemmas.Bool.Decides.{nat_tests}
use Rattle.std.proofs.lemmas.Str.{encodes_same, encodes-chars, scalars-chars}
use lib.Utf8.{scalar, scalars}
use Rattle.base_tables.specs.Column.{is_letter}
use Rattle.base_tables.specs.Word.{is_digit, is_word, starts_word, goes_on_word, reads_as_cell, needs_quotes, quoted_name}
use Rattle.base_decimal.specs.Digits.{stops}
use Rattle.base_decimal.proofs.Spans.{not_false}
use Rattle.formula_grammar.specs.declared.CellMark.{CellMark}
use Rattle.formula_read.specs.Characters.{Text, is_blank, goes_on_place, doubled}
use Rattle.formula_read.specs.Lexicon.{IsColumn, IsRow, IsCell, IsRange, IsSheetName, plain, quoted, OnSheet, NoCell, NoRange}
use Rattle.formula_round.proofs.Characters.{in_cell, ascii_starts}
use Rattle.formula_round.proofs.Fronts.{Sides, two_cells, two_columns, two_rows, weaker, all_parted, column_all, row_all, column_some, row_some, cell_in_cell}
use Rattle.formula_round.proofs.Fronts.{on_none, no_cell_without, no_cell_here, no_range_in}
use Rattle.formula_round.proofs.Words.{word_goes_on, word_no_cell_before}

-- ---- the two kinds of characters of a cell

unfoldable pub letter_or_dollar : ℕ → Bool
letter_or_dollar c = is_letter c || c == 36

digit_or_dollar : ℕ → Bool
digit_or_dollar c = is_digit c || c == 36

column_letters : (mark : CellMark) (s : Text) → IsColumn mark s → list_all letter_or_dollar s ≡ true
unfolding letter_or_dollar
column_letters mark s is = column_all letter_or_dollar refl (λ c e. ap (λ (b : Bool). b || c == 36) e) mark.absolute_column mark.column s is

row_digits : (mark : CellMark) (s : Text) → IsRow mark s → list_all digit_or_dollar s ≡ true
unfolding digit_or_dollar
row_digits mark s is = row_all digit_or_dollar refl (λ c e. ap (λ (b : Bool). b || c == 36) e) mark.absolute_row mark.row s is

-- a cell has a digit, and a letter
pub cell_some_digit : (mark : CellMark) (s : Text) → IsCell mark s → list_all letter_or_dollar s ≡ true → ⊥
unfolding letter_or_dollar
cell_some_digit mark s is all =
    row_some letter_or_dollar (λ c e. no_letter c e) mark.absolute_row mark.row is.second is.is_second
    (all_parted letter_or_dollar is.first is.second (sym (ap (list_all letter_or_dollar) is.parts) ∙ all)).1
  where
    no_letter : (c : ℕ) → is_digit c ≡ true → letter_or_dollar c ≡ false
    no_letter c e = grind (arith, nat_tests, e)

cell_some_letter : (mark : CellMark) (s : Text) → IsCell mark s → list_all digit_or_dollar s ≡ true → ⊥
unfolding digit_or_dollar
cell_some_letter mark s is all =
    column_some digit_or_dollar (λ c e. no_digit c e) mark.absolute_column mark.column is.first is.is_first
    (all_parted digit_or_dollar is.first is.second (sym (ap (list_all digit_or_dollar) is.parts) ∙ all)).0
  where
    no_digit : (c : ℕ) → is_letter c ≡ true → digit_or_dollar c ≡ false
    no_digit c e = grind (arith, nat_tests, e)

-- ---- lines and cells

-- no cell begins with a column that no digit follows
pub column_no_cell : (mark : CellMark) (s rest : Text) → IsColumn mark s → stops in_cell rest ≡ true → NoCell None (s ++ rest)
column_no_cell mark s rest is ends = no_cell_without letter_or_dollar s rest (column_letters mark s is) ends cell_some_digit

-- nor with a row
pub row_no_cell : (mark : CellMark) (s rest : Text) → IsRow mark s → stops in_cell rest ≡ true → NoCell None (s ++ rest)
row_no_cell mark s rest is ends = no_cell_without digit_or_dollar s rest (row_digits mark s is) ends cell_some_letter

in_cell_no_colon : (c : ℕ) → in_cell c ≡ true → not (c == 58) ≡ true
unfolding in_cell
in_cell_no_colon c e = grind (arith, nat_tests, e)

pub in_cell_no_blank : (c : ℕ) → in_cell c ≡ true → is_blank c ≡ false
unfolding in_cell
in_cell_no_blank c e = grind (arith, nat_tests, e)

-- no range begins with a cell behind which no other cell stands after a colon
pub cell_no_range : (mark : CellMark) (s rest : Text) → IsCell mark s → stops in_cell rest ≡ true
    → ((behind : Text) → rest ≡ 58 ∷ behind → NoCell None behind) → NoRange None (s ++ rest)
cell_no_range mark s rest is ends none =
    no_range_in s rest (weaker in_cell (λ c. not (c == 58)) in_cell_no_colon s (cell_in_cell mark s is)) ends
    (λ a b second behind e stop sides. by a b second behind e stop sides)
  where
    by : (a b : CellMark) (second behind : Text) → rest ≡ 58 ∷ (second ++ behind) → stops goes_on_place behind ≡ true → Sides a b s second → ⊥
    by a b second behind e stop (two_cells at other) = none (second ++ behind) e b second behind refl (on_none (IsCell b) second other) stop
    by a b second behind e stop (two_columns at other) = cell_some_digit mark s is (column_letters a s at)
    by a b second behind e stop (two_rows at other) = cell_some_letter mark s is (row_digits a s at)

-- ---- sheets

quote_starts_no_word : starts_word 39 ≡ false
quote_starts_no_word = ascii_starts 39 (omega arith)

word_no_quote : (s more tail other : Text) → is_word s ≡ true → s ++ tail ≡ (39 ∷ more) ++ other → ⊥
unfolding is_word
word_no_quote [] more tail other word e = cc
word_no_quote (c ∷ s) more tail other word e =
    let head : c ≡ 39 = cc in
    let x : true ≡ false = sym (and_parts (starts_word c) _ word).0 ∙ ap starts_word head ∙ quote_starts_no_word in cc

-- a sheet's name is spelled in one way before what follows it
sheet_once : (sheet a b x y : Text) → IsSheetName sheet a → IsSheetName sheet b → a ++ x ≡ b ++ y → a ≡ b
sheet_once sheet a b x y (plain word no_cell is) (plain other none at) e = encodes_same a b (sym is ∙ at)
sheet_once sheet a b x y (plain word no_cell is) (quoted name spelled some at) e = absurd (word_no_quote a _ x y word (e ∙ ap (λ (z : Text). z ++ y) spelled))
sheet_once sheet a b x y (quoted name spelled some at) (plain word no_cell is) e =
    absurd (word_no_quote b _ y x word (sym e ∙ ap (λ (z : Text). z ++ x) spelled))
sheet_once sheet a b x y (quoted name spelled some is) (quoted other again none at) e =
    spelled ∙ ap (λ (z : Text). 39 ∷ doubled 39 z ++ 39 ∷ []) (encodes_same name other (sym is ∙ at)) ∙ sym again

behind_same : (s x y : Text) → s ++ x ≡ s ++ y → x ≡ y
behind_same [] x y e = e
behind_same (c ∷ s) x y e = behind_same s x y (let f : s ++ x ≡ s ++ y = cc in f)

no_blanks : (blanks more place : Text) → place ≡ blanks ++ more → list_all is_blank blanks ≡ true → stops is_blank place ≡ true → place ≡ more
no_blanks [] more place e all stop = e
no_blanks (c ∷ blanks) more place e all stop =
    let yes = (and_parts (is_blank c) _ all).0 in
    let x : false ≡ true = sym (ap not yes) ∙ sym (ap (stops is_blank) e) ∙ stop in absurd cc

-- no range of the sheet stands behind its name where none stands of no sheet
pub sheet_no_range : (sheet name place : Text) → IsSheetName sheet name → stops is_blank place ≡ true → NoRange None place
    → NoRange (Some sheet) (name ++ (33 ∷ place))
sheet_no_range sheet name place named stop none a b z r parts is ends =
    let on = is.is_first in
    let mark = on.is_second in
    let whole : name ++ (33 ∷ place) ≡ on.first ++ (33 ∷ (mark.blanks ++ (is.second ++ r))) =
    parts ∙ ap (λ (x : Text). x ++ r) is.parts ∙ append_assoc is.first is.second r ∙ ap (λ (x : Text). x ++ (is.second ++ r)) on.parts
    ∙ append_assoc on.first on.second (is.second ++ r) ∙ ap (λ (x : Text). on.first ++ (x ++ (is.second ++ r))) mark.parts in
    let same : name ≡ on.first = sheet_once sheet name on.first (33 ∷ place) (33 ∷ (mark.blanks ++ (is.second ++ r))) named on.is_first whole in
    let tail : 33 ∷ place ≡ 33 ∷ (mark.blanks ++ (is.second ++ r)) =
    behind_same name _ _ (whole ∙ ap (λ (x : Text). x ++ (33 ∷ (mark.blanks ++ (is.second ++ r)))) (sym same)) in
    let behind : place ≡ mark.blanks ++ (is.second ++ r) = cc in
    none a b is.second r (no_blanks mark.blanks (is.second ++ r) place behind mark.all_blank stop) (on_none (IsRange a b) is.second is.is_second) ends

-- no cell of no sheet begins with a sheet
pub sheet_no_cell : (sheet name place : Text) → IsSheetName sheet name → NoCell None (name ++ (33 ∷ place))
unfolding in_cell
sheet_no_cell sheet name place (plain word no_cell is) = word_no_cell_before name 33 place (word_goes_on name word) refl (or_right (goes_on_word 33) _ refl)
sheet_no_cell sheet name place (quoted inside spelled some is) =
    subst (λ (x : Text). NoCell None (x ++ (33 ∷ place))) (sym spelled) (no_cell_here 39 ((doubled 39 inside ++ 39 ∷ []) ++ (33 ∷ place)) refl)

-- the mark behind a sheet's name
pub on_sheet : (Is : Text → Type 0) (sheet name s : Text) → IsSheetName sheet name → Is s → OnSheet (Some sheet) Is ((name ++ 33 ∷ []) ++ s)
on_sheet Is sheet name s named is = record {
  first = name ++ 33 ∷ [];
  second = s;
  parts = refl;
  is_first = record { first = name; second = 33 ∷ []; parts = refl; is_first = named; is_second = record { blanks = []; parts = refl; all_blank = refl } };
  is_second = is;
}

-- ---- sheet names as they are printed

twice_scalars : (quote c : ℕ) (more : Text) → scalar quote ≡ true → scalar c ≡ true → scalars more ≡ true → (b : Bool)
    → scalars (cond b (quote ∷ quote ∷ []) (c ∷ []) ++ more) ≡ true
twice_scalars quote c more q h m true = and_from (scalar quote) _ q (and_from (scalar quote) _ q m)
twice_scalars quote c more q h m false = and_from (scalar c) _ h m

-- what stands before a closing quote, and the quote
pub doubled_scalars : (quote : ℕ) (s : Text) → scalar quote ≡ true → scalars s ≡ true → scalars (doubled quote s ++ quote ∷ []) ≡ true
doubled_scalars quote [] q all = and_from (scalar quote) _ q refl
doubled_scalars quote (c ∷ s) q all =
    let k = and_parts (scalar c) (scalars s) all in
    ap scalars (append_assoc (cond (c == quote) (quote ∷ quote ∷ []) (c ∷ [])) (doubled quote s) (quote ∷ []))
    ∙ twice_scalars quote c (doubled quote s ++ quote ∷ []) q k.0 (doubled_scalars quote s q k.1) (c == quote)

name_by : (name : Text) → (b : Bool) → needs_quotes name ≡ b → (sheet : Text) → sheet ≡ encode_utf8_all name → name ≢ []
    → IsSheetName sheet (cond b (39 ∷ doubled 39 name ++ 39 ∷ []) name)
name_by name true e sheet is some = quoted name refl some is
name_by name false e sheet is some = plain (not_false (is_word name) k.0) k.1 is
  where
    k : (not (is_word name) ≡ false) × (reads_as_cell name ≡ false)
    k = let h = or_parts (not (is_word name)) _ e in (h.0, (or_parts (reads_as_cell name) _ h.1).0)

pub name_printed : (sheet : Text) → IsUtf8 sheet → sheet ≢ [] → IsSheetName sheet (quoted_name (chars sheet))
unfolding quoted_name
name_printed sheet utf8 some =
    name_by (chars sheet) (needs_quotes (chars sheet)) refl sheet (sym (encodes-chars sheet utf8))
    (λ e. some (sym (encodes-chars sheet utf8) ∙ ap encode_utf8_all e))

by_scalars : (name : Text) → scalars name ≡ true → (b : Bool) → scalars (cond b (39 ∷ doubled 39 name ++ 39 ∷ []) name) ≡ true
by_scalars name all true = and_from (scalar 39) _ refl (doubled_scalars 39 name refl all)
by_scalars name all false = all

pub name_scalars : (sheet : Text) → IsUtf8 sheet → scalars (quoted_name (chars sheet)) ≡ true
unfolding quoted_name
name_scalars sheet utf8 = by_scalars (chars sheet) (scalars-chars sheet utf8) (needs_quotes (chars sheet))
