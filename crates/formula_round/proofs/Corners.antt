-- Printed references and ranges spell their tokens.
use Rattle.std.proofs.Common.{◌≡◌, ◌≢◌, ℕ, ℤ, pos, Bool, true, false, cond, List, [], ◌∷◌, ◌++◌, refl, sym, ap, subst, ◌∙◌, append_assoc, arith}
use Rattle.std.specs.Prelude.{not, ◌||◌, ◌&&◌, codes, encode_utf8_all, if◌then◌else◌, Option, Some, None}
use Rattle.std.specs.Fmt.{signed_decimal}
use Rattle.std.specs.List.{list_all}
use Rattle.std.specs.Ordering.{int_eq}
use Rattle.std.specs.Str.{chars, IsUtf8, is_utf8}
use Rattle.std.proofs.lemmas.Bool.{and_from, and_parts}
use Rattle.std.proofs.lemmas.Bool.Decides.{nat_tests}
use Rattle.std.proofs.lemmas.Int.{ints}
use Rattle.std.proofs.lemmas.Str.{IsUtf8-append, IsUtf8-from_is_utf8, chars-append, chars-encodes}
use Rattle.base_values.specs.declared.Position.{Position}
use Rattle.base_values.specs.Places.{is_line}
use Rattle.base_tables.specs.declared.Language.{Language}
use Rattle.base_tables.specs.declared.Locale.{Locale}
use Rattle.base_tables.specs.Column.{column_name}
use Rattle.base_tables.specs.Word.{quoted_name}
use Rattle.base_decimal.specs.Digits.{stops}
use Rattle.formula_tree.specs.declared.Corner.{Corner}
use Rattle.formula_tree.specs.Corners.{line_at, corner_row, corner_column, corner_at, is_inside, is_whole_rows, is_whole_columns}
use Rattle.formula_print.specs.declared.Corners.TheVariants.{Letters}
use Rattle.formula_print.specs.References as print
use Rattle.formula_print.specs.References.{sheet_text, column_text, row_text, cell_text, with_colon, corners_text, reference_text, range_text}
use Rattle.formula_grammar.specs.declared.CellMark.{CellMark}
use Rattle.formula_grammar.specs.declared.Token.TheVariants as t
use Rattle.formula_grammar.specs.Normal.{is_named}
use Rattle.formula_read.specs.Characters.{Text, is_blank}
use Rattle.formula_read.specs.Lexicon.{dollar, IsColumn, IsRow, IsCell, IsSpan, IsRange, cells, columns, rows, on_row, on_column}
use Rattle.formula_read.specs.Lexicon.{IsSheetName, plain, quoted, OnSheet, NoCell, NoRange}
use Rattle.formula_round.specs.Tokens.{mark_of}
use Rattle.formula_round.proofs.Characters.{is_ascii, in_cell, ends_place, ends_cell}
use Rattle.formula_round.proofs.Fronts.{weaker, all_joined, column_in_cell, row_in_cell, cell_in_cell, ranged, first_in_cell, on_none}
use Rattle.formula_round.proofs.Leaves.{word_first}
use Rattle.formula_round.proofs.Lines.{row_named, column_printed}
use Rattle.formula_round.proofs.Parts.{Part, Followed, starts_operand, StartsOperand, starts_more, ascii_chars, ascii_utf8, one_token, ascii_token, same_text}
use Rattle.formula_round.proofs.Places.{column_no_cell, row_no_cell, cell_no_range, in_cell_no_blank, cell_some_digit}
use Rattle.formula_round.proofs.Places.{sheet_no_range, sheet_no_cell, on_sheet, name_printed, name_scalars}

-- where a corner stands
abbrev pub spot : Position → Corner → Position
spot place corner = record { row = corner_row place corner; column = corner_column place corner }

there : (place : Position) (corner : Corner) → is_inside place corner ≡ true → corner_at place corner ≡ Some (spot place corner)
unfolding corner_at
there place corner inside = ap (λ (b : Bool). cond b (Some (spot place corner)) None) inside

-- ---- lines and cells

marked : (absolute : Bool) → print.mark absolute ≡ dollar absolute
marked true = refl
marked false = refl

in_cell_ascii : (c : ℕ) → in_cell c ≡ true → is_ascii c ≡ true
unfolding in_cell
in_cell_ascii c e = grind (arith, nat_tests, e)

all_ascii : (s : Text) → list_all in_cell s ≡ true → list_all is_ascii s ≡ true
all_ascii = weaker in_cell is_ascii in_cell_ascii

module _ (place : Position) (corner : Corner) (inside : is_inside place corner ≡ true) where
  abbrev at : Position
  at = spot place corner

  lines_inside : (is_line (pos 1048576) at.row ≡ true) × (is_line (pos 16384) at.column ≡ true)
  unfolding is_inside
  lines_inside = and_parts _ _ inside

  is_column : IsColumn (mark_of place corner) (column_text corner at)
  is_column =
      let name = column_printed at.column lines_inside.1 in
      record {
        name = name.0;
        parts = ap (λ (x : Text). x ++ print.some_text (column_name at.column)) (marked corner.absolute_column)
            ∙ ap (λ (o : Option Text). dollar corner.absolute_column ++ print.some_text o) name.1;
        named = name.2;
      }

  is_row : IsRow (mark_of place corner) (row_text corner at)
  is_row = record {
    name = signed_decimal at.row;
    parts = ap (λ (x : Text). x ++ signed_decimal at.row) (marked corner.absolute_row);
    named = row_named at.row lines_inside.0;
  }

  is_cell : IsCell (mark_of place corner) (cell_text corner at)
  is_cell = record { first = column_text corner at; second = row_text corner at; parts = refl; is_first = is_column; is_second = is_row }

  cell_ascii : list_all is_ascii (cell_text corner at) ≡ true
  cell_ascii = all_ascii (cell_text corner at) (cell_in_cell (mark_of place corner) (cell_text corner at) is_cell)

cell_no_blank : (mark : CellMark) (s rest : Text) → IsCell mark s → stops is_blank (s ++ rest) ≡ true
cell_no_blank mark [] rest is = absurd (cell_some_digit mark [] is refl)
cell_no_blank mark (c ∷ s) rest is = ap not (in_cell_no_blank c (and_parts (in_cell c) _ (cell_in_cell mark (c ∷ s) is)).0)

-- ---- on sheets

named_some : (sheet : List ℕ) → is_named (Some sheet) ≡ true → (sheet ≢ []) × (is_utf8 sheet ≡ true)
named_some [] e = absurd cc
named_some (c ∷ sheet) e = (λ h. cc, e)

-- what stands behind the name of a sheet, in bytes and in characters
record Behind (sheet place : List ℕ) : Type 0 where
  name : Text
  named : IsSheetName sheet name
  utf8 : IsUtf8 (sheet_text (Some sheet) ++ place)
  characters : chars (sheet_text (Some sheet) ++ place) ≡ (name ++ 33 ∷ []) ++ place

behind : (sheet place : List ℕ) → is_named (Some sheet) ≡ true → list_all is_ascii place ≡ true → Behind sheet place
unfolding print.quoted_sheet
behind sheet place named all =
    let some = named_some sheet named in
    let utf8 = IsUtf8-from_is_utf8 sheet some.1 in
    let name : Text = quoted_name (chars sheet) in
    let scalar = name_scalars sheet utf8 in
    let name_utf8 : IsUtf8 (encode_utf8_all name) = (name, (scalar, refl)) in
    let front : IsUtf8 (sheet_text (Some sheet)) = IsUtf8-append (print.quoted_sheet sheet) (codes "!") name_utf8 (ascii_utf8 (codes "!") refl) in
    let front_is : chars (sheet_text (Some sheet)) ≡ name ++ 33 ∷ [] =
    chars-append (print.quoted_sheet sheet) (codes "!") name_utf8 ∙ (λ i. chars-encodes name scalar i ++ ascii_chars (codes "!") refl i) in
    record {
      name = name;
      named = name_printed sheet utf8 some.0;
      utf8 = IsUtf8-append (sheet_text (Some sheet)) place front (ascii_utf8 place all);
      characters = chars-append (sheet_text (Some sheet)) place front ∙ (λ i. front_is i ++ ascii_chars place all i);
    }

-- the name and its mark before the rest
behind_parts : (name place rest : Text) → ((name ++ 33 ∷ []) ++ place) ++ rest ≡ name ++ (33 ∷ (place ++ rest))
behind_parts name place rest = append_assoc (name ++ 33 ∷ []) place rest ∙ append_assoc name (33 ∷ []) (place ++ rest)

-- no cell of no sheet begins with a sheet
named_no_cell : (sheet place rest : List ℕ) → is_named (Some sheet) ≡ true → list_all is_ascii place ≡ true
    → NoCell None (chars (sheet_text (Some sheet) ++ place) ++ rest)
named_no_cell sheet place rest named all =
    let b = behind sheet place named all in
    let parts = ap (λ (x : Text). x ++ rest) b.characters ∙ behind_parts b.name place rest in
    subst (NoCell None) (sym parts) (sheet_no_cell sheet b.name (place ++ rest) b.named)

-- behind a cell no other cell stands after a colon
abbrev pub AfterCell : Locale → Text → Type 0
AfterCell locale rest = Followed locale rest × ((more : Text) → rest ≡ 58 ∷ more → NoCell None more)

module _ (locale : Locale) (language : Language) where
  cell_part : (sheet : Option (List ℕ)) (m : CellMark) (s : List ℕ) → is_named sheet ≡ true → IsCell m s
      → Part locale language (AfterCell locale) (sheet_text sheet ++ s) (t.Reference sheet m ∷ [])
  cell_part None m s named is =
      ascii_token locale language (AfterCell locale) (t.Reference None m) s (all_ascii s (cell_in_cell m s is)) (on_none (IsCell m) s is)
      (λ rest after. (ends_place locale rest after.0, cell_no_range m s rest is (ends_cell locale rest after.0) after.1))
  cell_part (Some sheet) m s named is =
      let b = behind sheet s named (all_ascii s (cell_in_cell m s is)) in
      one_token locale language (AfterCell locale) (t.Reference (Some sheet) m) (sheet_text (Some sheet) ++ s) b.utf8
      (subst (OnSheet (Some sheet) (IsCell m)) (sym b.characters) (on_sheet (IsCell m) sheet b.name s b.named is))
      (λ rest after.
      let parts = ap (λ (x : Text). x ++ rest) b.characters ∙ behind_parts b.name s rest in
      let none = cell_no_range m s rest is (ends_cell locale rest after.0) after.1 in (
        ends_place locale rest after.0,
        subst (NoRange (Some sheet)) (sym parts) (sheet_no_range sheet b.name (s ++ rest) b.named (cell_no_blank m s rest is) none),
      ))

  span_part : (sheet : Option (List ℕ)) (a b : CellMark) (s : List ℕ) → is_named sheet ≡ true → list_all is_ascii s ≡ true → IsRange a b s
      → Part locale language (Followed locale) (sheet_text sheet ++ s) (t.Range sheet a b ∷ [])
  span_part None a b s named ascii is =
      ascii_token locale language (Followed locale) (t.Range None a b) s ascii (on_none (IsRange a b) s is) (ends_place locale)
  span_part (Some sheet) a b s named ascii is =
      let h = behind sheet s named ascii in
      one_token locale language (Followed locale) (t.Range (Some sheet) a b) (sheet_text (Some sheet) ++ s) h.utf8
      (subst (OnSheet (Some sheet) (IsRange a b)) (sym h.characters) (on_sheet (IsRange a b) sheet h.name s h.named is)) (ends_place locale)

-- ---- first characters

in_cell_starts : (c : ℕ) (s : Text) → in_cell c ≡ true → starts_operand (c ∷ s) ≡ true
unfolding in_cell
in_cell_starts c s e = grind (arith, nat_tests, e)

cell_starts : (m : CellMark) (s : Text) → IsCell m s → starts_operand s ≡ true
cell_starts m [] is = absurd (cell_some_digit m [] is refl)
cell_starts m (c ∷ s) is = in_cell_starts c s (and_parts (in_cell c) _ (cell_in_cell m (c ∷ s) is)).0

span_starts : (a b : CellMark) (s : Text) → IsRange a b s → starts_operand s ≡ true
span_starts a b s is =
    let range = ranged a b s is in
    ap starts_operand range.parts ∙ by range.first range.second (first_in_cell a b range.first range.second range.sides)
  where
    by : (first second : Text) → list_all in_cell first ≡ true → starts_operand (first ++ (58 ∷ second)) ≡ true
    by [] second all = refl
    by (c ∷ first) second all = in_cell_starts c (first ++ (58 ∷ second)) (and_parts (in_cell c) _ all).0

name_starts : (sheet name place : Text) → IsSheetName sheet name → starts_operand (name ++ place) ≡ true
name_starts sheet name place (plain word no_cell is) = starts_more name place (word_first name word)
name_starts sheet name place (quoted inside spelled some is) = ap (λ (x : Text). starts_operand (x ++ place)) spelled

sheet_starts : (sheet : Option (List ℕ)) (place : List ℕ) → is_named sheet ≡ true → list_all is_ascii place ≡ true → starts_operand place ≡ true
    → StartsOperand (sheet_text sheet ++ place)
sheet_starts None place named all starts = ap starts_operand (ascii_chars place all) ∙ starts
sheet_starts (Some sheet) place named all starts =
    let b = behind sheet place named all in
    ap starts_operand (b.characters ∙ append_assoc b.name (33 ∷ []) place) ∙ name_starts sheet b.name (33 ∷ place) b.named

-- ---- references

module _ (place : Position) (sheet : Option (List ℕ)) (corner : Corner) (named : is_named sheet ≡ true) (inside : is_inside place corner ≡ true) where
  abbrev cell : List ℕ
  cell = cell_text corner (spot place corner)

  reference_is : reference_text (Letters place) sheet corner ≡ sheet_text sheet ++ cell
  unfolding reference_text
  reference_is = ap (print.reference_at sheet corner) (there place corner inside)

  pub reference_part : (locale : Locale) (language : Language)
      → Part locale language (AfterCell locale) (reference_text (Letters place) sheet corner) (t.Reference sheet (mark_of place corner) ∷ [])
  reference_part locale language =
      same_text (sym reference_is) (cell_part locale language sheet (mark_of place corner) cell named (is_cell place corner inside))

  pub reference_starts : StartsOperand (reference_text (Letters place) sheet corner)
  reference_starts =
      let ascii = cell_ascii place corner inside in
      subst StartsOperand (sym reference_is) (sheet_starts sheet cell named ascii (cell_starts (mark_of place corner) cell (is_cell place corner inside)))

no_reference_cell : (place : Position) (sheet : Option (List ℕ)) (corner : Corner) → is_named sheet ≡ true → is_inside place corner ≡ true
    → print.reference_cell_first (Letters place) sheet corner ≡ false → (rest : Text)
    → NoCell None (chars (sheet_text sheet ++ cell_text corner (spot place corner)) ++ rest)
unfolding print.reference_cell_first
no_reference_cell place None corner named inside first rest = absurd (let x = sym (there place corner inside) in cc)
no_reference_cell place (Some sheet) corner named inside first rest =
    named_no_cell sheet (cell_text corner (spot place corner)) rest named (cell_ascii place corner inside)

-- a reference begins with a cell of no sheet only where it says so
pub reference_no_cell : (place : Position) (sheet : Option (List ℕ)) (corner : Corner) → is_named sheet ≡ true → is_inside place corner ≡ true
    → print.reference_cell_first (Letters place) sheet corner ≡ false → (rest : Text)
    → NoCell None (chars (reference_text (Letters place) sheet corner) ++ rest)
reference_no_cell place sheet corner named inside first rest =
    let is = reference_is place sheet corner named inside in
    subst (λ (x : List ℕ). NoCell None (chars x ++ rest)) (sym is) (no_reference_cell place sheet corner named inside first rest)

-- ---- whole rows and columns

same_int : (x y : ℤ) → int_eq x y ≡ true → x ≡ y
same_int x y e = grind (arith, ints, nat_tests)

on_that_column : (place : Position) (corner : Corner) (n : ℤ) → corner.absolute_column ≡ true → int_eq corner.column n ≡ true
    → on_column n (mark_of place corner)
unfolding corner_column
on_that_column place corner n absolute is = λ i. record {
  absolute_row = corner.absolute_row;
  row = corner_row place corner;
  absolute_column = absolute i;
  column = (ap (λ (b : Bool). line_at b place.column corner.column) absolute ∙ same_int corner.column n is) i;
}

on_that_row : (place : Position) (corner : Corner) (n : ℤ) → corner.absolute_row ≡ true → int_eq corner.row n ≡ true → on_row n (mark_of place corner)
unfolding corner_row
on_that_row place corner n absolute is = λ i. record {
  absolute_row = absolute i;
  row = (ap (λ (b : Bool). line_at b place.row corner.row) absolute ∙ same_int corner.row n is) i;
  absolute_column = corner.absolute_column;
  column = corner_column place corner;
}

whole_columns_on : (place : Position) (first second : Corner) → is_whole_columns first second ≡ true
    → on_column (pos 1) (mark_of place first) × on_column (pos 16384) (mark_of place second)
unfolding is_whole_columns
whole_columns_on place first second e =
    let k = and_parts (first.absolute_column && second.absolute_column) _ e in
    let absolute = and_parts first.absolute_column second.absolute_column k.0 in
    let numbers = and_parts (int_eq first.column (pos 1)) _ k.1 in
    (on_that_column place first (pos 1) absolute.0 numbers.0, on_that_column place second (pos 16384) absolute.1 numbers.1)

whole_rows_on : (place : Position) (first second : Corner) → is_whole_rows first second ≡ true
    → on_row (pos 1) (mark_of place first) × on_row (pos 1048576) (mark_of place second)
unfolding is_whole_rows
whole_rows_on place first second e =
    let k = and_parts (first.absolute_row && second.absolute_row) _ e in
    let absolute = and_parts first.absolute_row second.absolute_row k.0 in
    let numbers = and_parts (int_eq first.row (pos 1)) _ k.1 in
    (on_that_row place first (pos 1) absolute.0 numbers.0, on_that_row place second (pos 1048576) absolute.1 numbers.1)

-- ---- ranges

span : (First Second : Text → Type 0) (left right : Text) → First left → Second right → IsSpan First Second (with_colon left right)
span First Second left right is at = record { first = left; second = right; parts = refl; is_first = is; is_second = at }

span_ascii : (left right : Text) → list_all in_cell left ≡ true → list_all in_cell right ≡ true → list_all is_ascii (with_colon left right) ≡ true
span_ascii left right first second = all_joined is_ascii left (58 ∷ right) (all_ascii left first) (and_from (is_ascii 58) _ refl (all_ascii right second))

module _ (place : Position) (first second : Corner) (here : is_inside place first ≡ true) (also : is_inside place second ≡ true) where
  abbrev a : CellMark
  a = mark_of place first

  abbrev b : CellMark
  b = mark_of place second

  abbrev from : Position
  from = spot place first

  abbrev to : Position
  to = spot place second

  -- the text of whole rows, of whole columns, and of any other range
  corners_by : Bool → Bool → Text
  corners_by true all_rows = with_colon (row_text first from) (row_text second to)
  corners_by false true = with_colon (column_text first from) (column_text second to)
  corners_by false false = with_colon (cell_text first from) (cell_text second to)

  corners_is : corners_text first from second to ≡ corners_by (is_whole_columns first second) (is_whole_rows first second)
  unfolding corners_text corners_by
  corners_is = is (is_whole_columns first second) (is_whole_rows first second)
    where
      is : (all_columns all_rows : Bool)
          → (if all_columns then corners_by true true else (if all_rows then corners_by false true else corners_by false false))
          ≡ corners_by all_columns all_rows
      is true all_rows = refl
      is false true = refl
      is false false = refl

  record Cornered (s : Text) : Type 0 where
    is_range : IsRange a b s
    ascii : list_all is_ascii s ≡ true

  cornered_by : (all_columns all_rows : Bool) → is_whole_columns first second ≡ all_columns → is_whole_rows first second ≡ all_rows
      → Cornered (corners_by all_columns all_rows)
  unfolding corners_by
  cornered_by true all_rows e f =
      let on = whole_columns_on place first second e in
      let left = is_row place first here in
      let right = is_row place second also in
      let left_in = row_in_cell a.absolute_row a.row _ left in
      let right_in = row_in_cell b.absolute_row b.row _ right in
      let both = span (IsRow a) (IsRow b) (row_text first from) (row_text second to) left right in
      record { is_range = rows both on.0 on.1; ascii = span_ascii (row_text first from) (row_text second to) left_in right_in }
  cornered_by false true e f =
      let on = whole_rows_on place first second f in
      let left = is_column place first here in
      let right = is_column place second also in
      let left_in = column_in_cell a.absolute_column a.column _ left in
      let right_in = column_in_cell b.absolute_column b.column _ right in
      let both = span (IsColumn a) (IsColumn b) (column_text first from) (column_text second to) left right in
      record { is_range = columns both on.0 on.1; ascii = span_ascii (column_text first from) (column_text second to) left_in right_in }
  cornered_by false false e f =
      let left = is_cell place first here in
      let right = is_cell place second also in
      let both = span (IsCell a) (IsCell b) (cell_text first from) (cell_text second to) left right in
      record { is_range = cells both; ascii = span_ascii (cell_text first from) (cell_text second to) (cell_in_cell a _ left) (cell_in_cell b _ right) }

  cornered : Cornered (corners_text first from second to)
  cornered = subst Cornered (sym corners_is) (cornered_by (is_whole_columns first second) (is_whole_rows first second) refl refl)

  shortened_by : (all_columns all_rows : Bool) → all_rows || all_columns ≡ true → (rest : Text) → NoCell None (corners_by all_columns all_rows ++ rest)
  unfolding corners_by in_cell
  shortened_by true all_rows e rest =
      let behind : Text = 58 ∷ row_text second to in
      subst (NoCell None) (sym (append_assoc (row_text first from) behind rest))
      (row_no_cell a (row_text first from) (behind ++ rest) (is_row place first here) refl)
  shortened_by false true e rest =
      let behind : Text = 58 ∷ column_text second to in
      subst (NoCell None) (sym (append_assoc (column_text first from) behind rest))
      (column_no_cell a (column_text first from) (behind ++ rest) (is_column place first here) refl)
  shortened_by false false e rest = absurd cc

  -- no cell begins with whole rows or columns
  shortened : is_whole_rows first second || is_whole_columns first second ≡ true → (rest : Text) → NoCell None (corners_text first from second to ++ rest)
  shortened e rest =
      subst (λ (x : Text). NoCell None (x ++ rest)) (sym corners_is) (shortened_by (is_whole_columns first second) (is_whole_rows first second) e rest)

  range_is : (sheet : Option (List ℕ)) → range_text (Letters place) sheet first second ≡ sheet_text sheet ++ corners_text first from second to
  unfolding range_text
  range_is sheet = λ i. print.range_at sheet first (there place first here i) second (there place second also i)

  pub range_part : (locale : Locale) (language : Language) (sheet : Option (List ℕ)) → is_named sheet ≡ true
      → Part locale language (Followed locale) (range_text (Letters place) sheet first second) (t.Range sheet a b ∷ [])
  range_part locale language sheet named =
      same_text (sym (range_is sheet)) (span_part locale language sheet a b (corners_text first from second to) named cornered.ascii cornered.is_range)

  pub range_starts : (sheet : Option (List ℕ)) → is_named sheet ≡ true → StartsOperand (range_text (Letters place) sheet first second)
  range_starts sheet named =
      let starts = span_starts a b (corners_text first from second to) cornered.is_range in
      subst StartsOperand (sym (range_is sheet)) (sheet_starts sheet (corners_text first from second to) named cornered.ascii starts)

  -- where both corners are there, only whole rows or columns begin with no cell
  short_by : (o q : Option Position) → o ≡ Some from → q ≡ Some to → (short : Bool)
      → print.is_there o && not ((print.is_there o && print.is_there q) && short) ≡ false → short ≡ true
  short_by o q is at true e = refl
  short_by o q is at false e = cc

  -- a range begins with a cell of no sheet only where it says so
  pub range_no_cell : (sheet : Option (List ℕ)) → is_named sheet ≡ true → print.range_cell_first (Letters place) sheet first second ≡ false → (rest : Text)
      → NoCell None (chars (range_text (Letters place) sheet first second) ++ rest)
  unfolding print.range_cell_first
  range_no_cell None named no_first rest =
      let short = short_by _ _ (there place first here) (there place second also) (is_whole_rows first second || is_whole_columns first second) no_first in
      let is = ap chars (range_is None) ∙ ascii_chars (corners_text first from second to) cornered.ascii in
      subst (λ (x : Text). NoCell None (x ++ rest)) (sym is) (shortened short rest)
  range_no_cell (Some sheet) named no_first rest =
      subst (λ (x : List ℕ). NoCell None (chars x ++ rest)) (sym (range_is (Some sheet)))
      (named_no_cell sheet (corners_text first from second to) rest named cornered.ascii)
