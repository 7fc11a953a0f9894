-- Where no cell and no range stands at the front of a text.
use Rattle.std.proofs.Common.{◌≡◌, ℕ, Bool, true, false, cond, [], ◌∷◌, ◌++◌, refl, sym, ap, subst, ◌∙◌, append_assoc, append-nil, arith}
use Rattle.std.specs.Prelude.{ℤ, not, ◌==◌, ◌||◌, ◌&&◌, Option, Some, None}
use Rattle.std.specs.List.{list_all}
use Rattle.std.proofs.lemmas.Bool.{and_from, and_parts}
use Rattle.std.proofs.lemmas.Bool.Decides.{nat_tests}
use Rattle.std.proofs.lemmas.List.Folds.{list_all-append}
use Rattle.base_tables.specs.Column.{is_letter, is_column_name, column_of_name}
use Rattle.base_tables.specs.Word.{is_digit, is_count, is_row_number}
use Rattle.base_decimal.specs.Digits.{stops}
use Rattle.formula_grammar.specs.declared.CellMark.{CellMark}
use Rattle.formula_read.specs.Characters.{Text, goes_on_place}
use Rattle.formula_read.specs.Lexicon.{dollar, row_of_name, IsLine, IsColumn, IsRow, IsCell, IsRange, cells, columns, rows, OnSheet, NoCell, NoRange}
use Rattle.formula_round.proofs.Characters.{in_cell}

-- ---- tests of all characters

pub weaker : (p q : ℕ → Bool) → ((c : ℕ) → p c ≡ true → q c ≡ true) → (s : Text) → list_all p s ≡ true → list_all q s ≡ true
weaker p q h [] e = refl
weaker p q h (c ∷ s) e = let k = and_parts (p c) (list_all p s) e in and_from (q c) (list_all q s) (h c k.0) (weaker p q h s k.1)

pub all_joined : (p : ℕ → Bool) (s z : Text) → list_all p s ≡ true → list_all p z ≡ true → list_all p (s ++ z) ≡ true
all_joined p s z e f = list_all-append p s z ∙ and_from (list_all p s) (list_all p z) e f

pub all_parted : (p : ℕ → Bool) (s z : Text) → list_all p (s ++ z) ≡ true → (list_all p s ≡ true) × (list_all p z ≡ true)
all_parted p s z e = and_parts (list_all p s) (list_all p z) (sym (list_all-append p s z) ∙ e)

never : (b : Bool) → b ≡ true → not b ≡ true → ⊥
never true e f = cc
never false e f = cc

-- ---- a text in two ways in two parts

-- the second way parts later
pub record Later (z s r rest : Text) : Type 0 where
  pub more : Text
  pub parts : s ≡ z ++ more
  pub behind : r ≡ more ++ rest

parts_later : (p : ℕ → Bool) (z r s rest : Text) → list_all p z ≡ true → stops p rest ≡ true → z ++ r ≡ s ++ rest → Later z s r rest
parts_later p [] r s rest all ends e = record { more = s; parts = refl; behind = e }
parts_later p (c ∷ z) r [] rest all ends e =
    absurd (never (p c) (and_parts (p c) (list_all p z) all).0 (ap (stops p) e ∙ ends))
parts_later p (c ∷ z) r (d ∷ s) rest all ends e =
    let head : c ≡ d = cc in
    let tail : z ++ r ≡ s ++ rest = cc in
    let again = parts_later p z r s rest (and_parts (p c) (list_all p z) all).1 ends tail in
    record { more = again.more; parts = ap (λ (x : Text). d ∷ x) again.parts ∙ ap (λ (x : ℕ). x ∷ (z ++ again.more)) (sym head); behind = again.behind }

-- ---- the characters of lines, cells and ranges

letter_in_cell : (c : ℕ) → is_letter c ≡ true → in_cell c ≡ true
unfolding in_cell
letter_in_cell c e = ap (λ (b : Bool). b || (is_digit c || c == 36)) e

digit_in_cell : (c : ℕ) → is_digit c ≡ true → in_cell c ≡ true
unfolding in_cell
digit_in_cell c e = grind (arith, nat_tests)

pub if_some : {A : Type 0} (b : Bool) (x y : A) → cond b (Some x) None ≡ Some y → b ≡ true
if_some true x y e = refl
if_some false x y e = cc

pub column_letters_all : (name : Text) (line : ℤ) → column_of_name name ≡ Some line → list_all is_letter name ≡ true
unfolding column_of_name is_column_name
column_letters_all name line e = (and_parts _ _ (if_some (is_column_name name) _ line e)).0

pub row_digits_all : (name : Text) (line : ℤ) → row_of_name name ≡ Some line → list_all is_digit name ≡ true
unfolding is_count
row_digits_all name line e = (and_parts _ _ (if_some (is_row_number name) _ line e)).0

-- the characters of a line: a dollar, or those of its name
line_all : (p : ℕ → Bool) (line_of_name : Text → Option ℤ) → ((name : Text) (line : ℤ) → line_of_name name ≡ Some line → list_all p name ≡ true)
    → (q : ℕ → Bool) → q 36 ≡ true → ((c : ℕ) → p c ≡ true → q c ≡ true) → (absolute : Bool) (line : ℤ) (s : Text) → IsLine line_of_name absolute line s
    → list_all q s ≡ true
line_all p line_of_name named q dollars h absolute line s is =
    ap (list_all q) is.parts ∙ all_joined q (dollar absolute) is.name (mark absolute) (weaker p q h is.name (named is.name line is.named))
  where
    mark : (absolute : Bool) → list_all q (dollar absolute) ≡ true
    mark true = ap (λ (b : Bool). b && true) dollars
    mark false = refl

pub column_all : (q : ℕ → Bool) → q 36 ≡ true → ((c : ℕ) → is_letter c ≡ true → q c ≡ true) → (absolute : Bool) (line : ℤ) (s : Text)
    → IsLine column_of_name absolute line s → list_all q s ≡ true
column_all = line_all is_letter column_of_name column_letters_all

pub row_all : (q : ℕ → Bool) → q 36 ≡ true → ((c : ℕ) → is_digit c ≡ true → q c ≡ true) → (absolute : Bool) (line : ℤ) (s : Text)
    → IsLine row_of_name absolute line s → list_all q s ≡ true
row_all = line_all is_digit row_of_name row_digits_all

-- a name has a character, so that each line has one of its own
some_name : (line_of_name : Text → Option ℤ) → line_of_name [] ≡ None → (p : ℕ → Bool)
    → ((name : Text) (line : ℤ) → line_of_name name ≡ Some line → list_all p name ≡ true)
    → (q : ℕ → Bool) → ((c : ℕ) → p c ≡ true → q c ≡ false) → (absolute : Bool) (line : ℤ) (s : Text) → IsLine line_of_name absolute line s
    → list_all q s ≡ true → ⊥
some_name line_of_name none p named q h absolute line s is all =
    go is.name (named is.name line is.named) is.named (all_parted q (dollar absolute) is.name (sym (ap (list_all q) is.parts) ∙ all)).1
  where
    go : (name : Text) → list_all p name ≡ true → line_of_name name ≡ Some line → list_all q name ≡ true → ⊥
    go [] all named e = let x = sym none ∙ named in cc
    go (c ∷ name) all named e =
        let no = h c (and_parts (p c) (list_all p name) all).0 in
        let yes = (and_parts (q c) (list_all q name) e).0 in cc

-- a column has a letter
pub column_some : (q : ℕ → Bool) → ((c : ℕ) → is_letter c ≡ true → q c ≡ false) → (absolute : Bool) (line : ℤ) (s : Text)
    → IsLine column_of_name absolute line s → list_all q s ≡ true → ⊥
unfolding column_of_name is_column_name
column_some = some_name column_of_name refl is_letter column_letters_all

-- a row has a digit
pub row_some : (q : ℕ → Bool) → ((c : ℕ) → is_digit c ≡ true → q c ≡ false) → (absolute : Bool) (line : ℤ) (s : Text) → IsLine row_of_name absolute line s
    → list_all q s ≡ true → ⊥
unfolding is_count
row_some = some_name row_of_name refl is_digit row_digits_all

pub column_in_cell : (absolute : Bool) (line : ℤ) (s : Text) → IsLine column_of_name absolute line s → list_all in_cell s ≡ true
unfolding in_cell
column_in_cell = column_all in_cell refl letter_in_cell

pub row_in_cell : (absolute : Bool) (line : ℤ) (s : Text) → IsLine row_of_name absolute line s → list_all in_cell s ≡ true
unfolding in_cell
row_in_cell = row_all in_cell refl digit_in_cell

pub cell_in_cell : (mark : CellMark) (s : Text) → IsCell mark s → list_all in_cell s ≡ true
cell_in_cell mark s is =
    ap (list_all in_cell) is.parts
    ∙ all_joined in_cell is.first is.second (column_in_cell mark.absolute_column mark.column is.first is.is_first)
    (row_in_cell mark.absolute_row mark.row is.second is.is_second)

-- what stands on both sides of the colon of a range
pub data Sides (a b : CellMark) (first second : Text) : Type 0 where
  two_cells : IsCell a first → IsCell b second → Sides a b first second
  two_columns : IsColumn a first → IsColumn b second → Sides a b first second
  two_rows : IsRow a first → IsRow b second → Sides a b first second

pub record Ranged (a b : CellMark) (s : Text) : Type 0 where
  pub first : Text
  pub second : Text
  pub parts : s ≡ first ++ (58 ∷ second)
  pub sides : Sides a b first second

pub ranged : (a b : CellMark) (s : Text) → IsRange a b s → Ranged a b s
ranged a b s (cells is) = record { first = is.first; second = is.second; parts = is.parts; sides = two_cells is.is_first is.is_second }
ranged a b s (columns is first last) = record { first = is.first; second = is.second; parts = is.parts; sides = two_columns is.is_first is.is_second }
ranged a b s (rows is first last) = record { first = is.first; second = is.second; parts = is.parts; sides = two_rows is.is_first is.is_second }

pub first_in_cell : (a b : CellMark) (first second : Text) → Sides a b first second → list_all in_cell first ≡ true
first_in_cell a b first second (two_cells is at) = cell_in_cell a first is
first_in_cell a b first second (two_columns is at) = column_in_cell a.absolute_column a.column first is
first_in_cell a b first second (two_rows is at) = row_in_cell a.absolute_row a.row first is

-- ---- of no sheet

none_on : (Is : Text → Type 0) (s : Text) → OnSheet None Is s → Is s
none_on Is s is = subst Is (sym (is.parts ∙ ap (λ (x : Text). x ++ is.second) is.is_first)) is.is_second

pub on_none : (Is : Text → Type 0) (s : Text) → Is s → OnSheet None Is s
on_none Is s is = record { first = []; second = s; parts = refl; is_first = refl; is_second = is }

-- ---- no cell

goes_on : (m : ℕ) (more rest : Text) → list_all goes_on_place (m ∷ more) ≡ true → stops goes_on_place (m ∷ more ++ rest) ≡ true → ⊥
goes_on m more rest all ends = never (goes_on_place m) (and_parts (goes_on_place m) (list_all goes_on_place more) all).0 ends

-- a text whose characters all go on a place is a cell only whole
pub no_cell_in : (s rest : Text) → list_all goes_on_place s ≡ true → stops in_cell rest ≡ true
    → ((mark : CellMark) → IsCell mark s → stops goes_on_place rest ≡ true → ⊥) → NoCell None (s ++ rest)
no_cell_in s rest all ends none mark z r parts is stop =
    let cell = none_on (IsCell mark) z is in
    let later = parts_later in_cell z r s rest (cell_in_cell mark z cell) ends (sym parts) in
    go later.more later.parts later.behind cell
  where
    go : (more : Text) → s ≡ z ++ more → r ≡ more ++ rest → IsCell mark z → ⊥
    go [] e f cell = none mark (subst (IsCell mark) (sym (e ∙ append-nil z)) cell) (ap (stops goes_on_place) (sym f) ∙ stop)
    go (m ∷ more) e f cell =
        goes_on m more rest (all_parted goes_on_place z (m ∷ more) (sym (ap (list_all goes_on_place) e) ∙ all)).1 (ap (stops goes_on_place) (sym f) ∙ stop)

-- a text without one of the two kinds of characters that a cell has
pub no_cell_without : (q : ℕ → Bool) (s rest : Text) → list_all q s ≡ true → stops in_cell rest ≡ true
    → ((mark : CellMark) (z : Text) → IsCell mark z → list_all q z ≡ true → ⊥) → NoCell None (s ++ rest)
no_cell_without q s rest all ends none mark z r parts is stop =
    let cell = none_on (IsCell mark) z is in
    let later = parts_later in_cell z r s rest (cell_in_cell mark z cell) ends (sym parts) in
    none mark z cell (all_parted q z later.more (sym (ap (list_all q) later.parts) ∙ all)).0

no_empty_column : column_of_name [] ≡ None
unfolding column_of_name is_column_name
no_empty_column = refl

-- a character that is neither a letter nor a dollar begins no cell
pub no_cell_here : (c : ℕ) (rest : Text) → is_letter c || (c == 36) ≡ false → NoCell None (c ∷ rest)
no_cell_here c rest other mark z r parts is stop = go (none_on (IsCell mark) z is)
  where
    letters : (name : Text) (more : Text) → list_all is_letter name ≡ true → c ∷ rest ≡ name ++ more → (name ≡ [] → ⊥) → ⊥
    letters [] more all e some = some refl
    letters (d ∷ name) more all e some =
        let head : c ≡ d = cc in
        let yes = (and_parts (is_letter d) (list_all is_letter name) all).0 in
        let x : true ≡ false = sym (ap (λ (b : Bool). b || (c == 36)) (ap is_letter head ∙ yes)) ∙ other in cc

    empty : (line : ℤ) (name : Text) → column_of_name name ≡ Some line → name ≡ [] → ⊥
    empty line name e f = let x = sym no_empty_column ∙ ap column_of_name (sym f) ∙ e in cc

    first : (absolute : Bool) (line : ℤ) (name more : Text) → column_of_name name ≡ Some line → c ∷ rest ≡ dollar absolute ++ (name ++ more) → ⊥
    first true line name more named e =
        let head : c ≡ 36 = cc in
        let x : is_letter 36 || true ≡ false = subst (λ (d : ℕ). is_letter d || (d == 36) ≡ false) head other in cc
    first false line name more named e = letters name more (column_letters_all name line named) e (empty line name named)

    go : IsCell mark z → ⊥
    go cell =
        let column = cell.is_first in
        first mark.absolute_column mark.column column.name (cell.second ++ r) column.named
        (parts ∙ ap (λ (x : Text). x ++ r) cell.parts ∙ append_assoc cell.first cell.second r
        ∙ ap (λ (x : Text). x ++ (cell.second ++ r)) column.parts ∙ append_assoc (dollar mark.absolute_column) column.name (cell.second ++ r))

-- ---- no range

-- a text without a colon is the first part of a range only whole
pub no_range_in : (s rest : Text) → list_all (λ c. not (c == 58)) s ≡ true → stops in_cell rest ≡ true
    → ((a b : CellMark) (second behind : Text) → rest ≡ 58 ∷ (second ++ behind) → stops goes_on_place behind ≡ true → Sides a b s second → ⊥)
    → NoRange None (s ++ rest)
no_range_in s rest all ends none a b z r parts is stop =
    let range = ranged a b z (none_on (IsRange a b) z is) in
    let later = parts_later in_cell range.first (58 ∷ (range.second ++ r)) s rest (first_in_cell a b range.first range.second range.sides) ends
    (sym (parts ∙ ap (λ (x : Text). x ++ r) range.parts ∙ append_assoc range.first (58 ∷ range.second) r)) in
    go range later.more later.parts later.behind
  where
    go : (range : Ranged a b z) (more : Text) → s ≡ range.first ++ more → 58 ∷ (range.second ++ r) ≡ more ++ rest → ⊥
    go range [] e f = none a b range.second r (sym f) stop (subst (λ (x : Text). Sides a b x range.second) (sym (e ∙ append-nil range.first)) range.sides)
    go range (m ∷ more) e f =
        let head : 58 ≡ m = cc in
        let yes =
        (and_parts (not (m == 58)) _ (all_parted (λ c. not (c == 58)) range.first (m ∷ more) (sym (ap (list_all (λ c. not (c == 58))) e) ∙ all)).1).0 in
        let x : false ≡ true = ap (λ (c : ℕ). not (c == 58)) head ∙ yes in cc
