-- Cells and ranges are read just where they are spelled.
use Rattle.std.proofs.Common.{◌≡◌, ℕ, ◌<◌, Bool, true, false, refl, arith, zero, suc, [], ◌∷◌, sym, ap, ◌∙◌, ◌++◌, Option, Some, None, append_assoc}
use Rattle.std.specs.Prelude.{◌==◌, ℤ, pos, not}
use Rattle.std.proofs.lemmas.Bool.{and_parts, and_from, or_left, or_right, both_ways, false_from_ne_true, not_from_false}
use Rattle.std.proofs.lemmas.Bool.Decides.{nat_tests}
use Rattle.std.proofs.UnicodeAscii.{is_alphabetic_ascii}
use Rattle.std.specs.List.{list_all}
use Rattle.std.specs.Str.{chars, IsUtf8, IsAscii}
use Rattle.std.proofs.lemmas.Str.{encodes-IsAscii, encodes-chars}
use Rattle.std.specs.Option.{option_map, option_or}
use Rattle.std.proofs.lemmas.List.Folds.{list_all-append}
use Rattle.base_tables.specs.Column.{is_letter, letters_number, is_column_name, column_of_name}
use Rattle.base_tables.specs.Word.{is_digit, starts_word, goes_on_word, digits_number, is_count, is_row_number}
use Rattle.base_decimal.specs.Digits.{span, stops}
use Rattle.base_decimal.proofs.Spans.{span_all, not_true, span_at, span_parts, stops_sooner}
use Rattle.formula_grammar.specs.declared.CellMark.{CellMark}
use Rattle.formula_read.specs.Characters.{goes_on_place, Text}
use Rattle.formula_read.specs.laws.Lex.{is_sign, dollar_at, behind_dollar, line_at, column_at, row_at, with_row, with_column, corner_at, between, range_behind, cell_alone, spot_at}
use Rattle.formula_read.specs.declared.place.Line.{Line}
use Rattle.formula_read.specs.declared.place.Side.{Side}
use Rattle.formula_read.specs.declared.place.Spot.{Spot}
use Rattle.formula_read.specs.Lexicon.{dollar, row_of_name, IsLine, IsColumn, IsRow, IsPair, IsCell, IsSpan, IsRange, cells, columns, rows}
use Rattle.formula_read.proofs.Lexing.{cond_some, Front, Brings, nothing, brings, brings_none, brings_each, brings_map, brings_then, brings_or, brings_cond, past_none, past_sound}
use Rattle.formula_read.specs.declared.place.Side.TheVariants as side
use Rattle.formula_read.specs.declared.place.Spot.TheVariants as spot

-- ---- characters

letter_low : (c : ℕ) → is_letter c ≡ true → c < 128
letter_low c e = grind (arith, nat_tests)

digit_low : (c : ℕ) → is_digit c ≡ true → c < 128
digit_low c e = grind (arith, nat_tests)

digit_no_letter : (c : ℕ) → is_digit c ≡ true → is_letter c ≡ false
digit_no_letter c e = grind (arith, nat_tests)

place_no_digit : (c : ℕ) → goes_on_place c ≡ false → is_digit c ≡ false
place_no_digit c e = grind (arith, nat_tests)

place_no_letter : (c : ℕ) → goes_on_place c ≡ false → is_letter c ≡ false
place_no_letter c e = false_from_ne_true (is_letter c) (λ h. (let is = is_alphabetic_ascii c (letter_low c h) in grind (arith, nat_tests, is)))

colon_ends : goes_on_place 58 ≡ false
colon_ends = let is = is_alphabetic_ascii 58 (omega arith) in grind (arith, nat_tests, is)

-- a character that begins a word is no sign and no digit
pub start_is : (c : ℕ) → starts_word c ≡ true → (is_sign c ≡ false) × (is_digit c ≡ false) × (goes_on_word c ≡ true)
start_is c e = (
  false_from_ne_true (is_sign c) (λ h. (let low : c < 128 = grind (arith, nat_tests) in let is = is_alphabetic_ascii c low in grind (arith, nat_tests, is))),
  false_from_ne_true (is_digit c) (λ h. (let is = is_alphabetic_ascii c (digit_low c h) in grind (arith, nat_tests, is))),
  grind (arith, nat_tests),
)

-- characters of ASCII are their bytes
all_low : (p : ℕ → Bool) → ((c : ℕ) → p c ≡ true → c < 128) → (s : Text) → list_all p s ≡ true → IsAscii s
all_low p low [] e i = omega arith
all_low p low (c ∷ s) e zero = low c (and_parts (p c) (list_all p s) e).0
all_low p low (c ∷ s) e (suc i) = all_low p low s (and_parts (p c) (list_all p s) e).1 i

run_bytes : (p : ℕ → Bool) → ((c : ℕ) → p c ≡ true → c < 128) → (bytes text : Text) → IsUtf8 bytes → chars bytes ≡ (span p text).0 → bytes ≡ (span p text).0
run_bytes p low bytes text whole e =
    sym (encodes-chars bytes whole) ∙ encodes-IsAscii (chars bytes) (all_low p low (chars bytes) (ap (list_all p) e ∙ span_all p text)) ∙ e

pub letter_bytes : (bytes text : Text) → IsUtf8 bytes → chars bytes ≡ (span is_letter text).0 → bytes ≡ (span is_letter text).0
letter_bytes = run_bytes is_letter letter_low

pub digit_bytes : (bytes text : Text) → IsUtf8 bytes → chars bytes ≡ (span is_digit text).0 → bytes ≡ (span is_digit text).0
digit_bytes = run_bytes is_digit digit_low

pub digits_all : (bytes text : Text) → IsUtf8 bytes → chars bytes ≡ (span is_digit text).0 → list_all is_digit bytes ≡ true
digits_all bytes text whole e = ap (list_all is_digit) (digit_bytes bytes text whole e) ∙ span_all is_digit text

pub ruleset digits = (digit_bytes, digits_all)

-- ---- columns and rows

-- before `!` stands the name of a sheet
abbrev pub no_mark : ℕ → Bool
no_mark c = not (c == 33)

-- a name of lines is some characters that pass, none of which is a dollar or a mark
record Names (line_of_name : Text → Option ℤ) (p : ℕ → Bool) : Type 0 where
  all : (name : Text) (line : ℤ) → line_of_name name ≡ Some line → list_all p name ≡ true
  some : line_of_name [] ≡ None
  no_dollar : (c : ℕ) → p c ≡ true → (c == 36) ≡ false
  unmarked : (c : ℕ) → p c ≡ true → no_mark c ≡ true

abbrev LineIs : (Text → Option ℤ) → Line → Text → Type 0
LineIs line_of_name l = IsLine line_of_name l.absolute l.number

all_more : (p q : ℕ → Bool) → ((c : ℕ) → p c ≡ true → q c ≡ true) → (s : Text) → list_all p s ≡ true → list_all q s ≡ true
all_more p q h [] e = refl
all_more p q h (c ∷ s) e = let k = and_parts (p c) (list_all p s) e in and_from _ _ (h c k.0) (all_more p q h s k.1)

dollar_parts : (text : Text) → text ≡ dollar (dollar_at text).0 ++ (dollar_at text).1
dollar_parts text = let h = (past_sound 36 text).read in grind arith

dollar_none : (text : Text) → stops (λ c. c == 36) text ≡ true → dollar_at text ≡ (false, text)
dollar_none text e = ap (behind_dollar text) (past_none 36 text e)

line_sound : (line_of_name : Text → Option ℤ) (p : ℕ → Bool) (text : Text) → Brings (λ r. Front (LineIs line_of_name r.0) text r.1) (line_at line_of_name p text)
unfolding line_at
line_sound line_of_name p text =
    let d = dollar_at text in
    let s = span p d.1 in
    brings_map _ (line_of_name s.0) (brings_each (line_of_name s.0) (λ n e. e)) (λ n e. record {
      spelled = dollar d.0 ++ s.0;
      parts = dollar_parts text ∙ ap (λ (x : Text). dollar d.0 ++ x) (span_parts p d.1) ∙ sym (append_assoc (dollar d.0) s.0 s.1);
      is = record { name = s.0; parts = refl; named = e };
    })

module _ (line_of_name : Text → Option ℤ) (p : ℕ → Bool) (names : Names line_of_name p) where
  -- the name, and that it begins with no character that a name can't
  name_stops : (q : ℕ → Bool) → ((c : ℕ) → p c ≡ true → q c ≡ false) → (name : Text) (line : ℤ) (rest : Text) → line_of_name name ≡ Some line → stops q (name ++ rest) ≡ true
  name_stops q h [] line rest e = absurd (let f = sym names.some ∙ e in cc)
  name_stops q h (c ∷ name) line rest e = ap not (h c (and_parts (p c) (list_all p name) (names.all (c ∷ name) line e)).0)

  line_dollar : (absolute : Bool) (line : ℤ) (s rest : Text) (is : IsLine line_of_name absolute line s) → dollar_at (s ++ rest) ≡ (absolute, is.name ++ rest)
  line_dollar true line s rest is = rw is.parts
  line_dollar false line s rest is = rw is.parts (dollar_none (is.name ++ rest) (name_stops (λ c. c == 36) names.no_dollar is.name line rest is.named))

  line_read : (l : Line) (s rest : Text) → LineIs line_of_name l s → stops p rest ≡ true → line_at line_of_name p (s ++ rest) ≡ Some (l, rest)
  unfolding line_at
  line_read l s rest is ends = rw (line_dollar l.absolute l.number s rest is, span_at p is.name rest (names.all is.name l.number is.named) ends, is.named)

  line_stops : (q : ℕ → Bool) → q 36 ≡ false → ((c : ℕ) → p c ≡ true → q c ≡ false) → (absolute : Bool) (line : ℤ) (s rest : Text)
      → IsLine line_of_name absolute line s → stops q (s ++ rest) ≡ true
  line_stops q d h true line s rest is = rw is.parts (ap not d)
  line_stops q d h false line s rest is = rw is.parts (name_stops q h is.name line rest is.named)

  line_unmarked : (absolute : Bool) (line : ℤ) (s : Text) → IsLine line_of_name absolute line s → list_all no_mark s ≡ true
  line_unmarked true line s is = rw is.parts (all_more p no_mark names.unmarked is.name (names.all is.name line is.named))
  line_unmarked false line s is = rw is.parts (all_more p no_mark names.unmarked is.name (names.all is.name line is.named))

columns_named : Names column_of_name is_letter
unfolding column_of_name is_column_name
columns_named = record {
  all = λ name line e. (and_parts _ _ (cond_some (is_column_name name) (Some (pos (letters_number name))) line e).0).0;
  some = refl;
  no_dollar = λ c e. grind (arith, nat_tests);
  unmarked = λ c e. grind (arith, nat_tests);
}

rows_named : Names row_of_name is_digit
unfolding is_count
rows_named = record {
  all = λ name line e. (and_parts _ _ (cond_some (is_row_number name) (Some (pos (digits_number name))) line e).0).0;
  some = refl;
  no_dollar = λ c e. grind (arith, nat_tests);
  unmarked = λ c e. grind (arith, nat_tests);
}

row_no_letter : (absolute : Bool) (line : ℤ) (s rest : Text) → IsLine row_of_name absolute line s → stops is_letter (s ++ rest) ≡ true
row_no_letter = line_stops row_of_name is_digit rows_named is_letter refl digit_no_letter

-- where neither stands behind the dollar
no_column : (text : Text) (d : Bool) (behind : Text) → dollar_at text ≡ (d, behind) → stops is_letter behind ≡ true → column_at text ≡ None
unfolding line_at column_of_name is_column_name
no_column text d behind e f = rw (e, span_at is_letter [] behind refl f)

no_row : (text : Text) → stops (λ c. c == 36) text ≡ true → stops is_digit text ≡ true → row_at text ≡ None
unfolding line_at is_count
no_row text e f = rw (dollar_none text e, span_at is_digit [] text refl f)

-- ---- sides

abbrev column_of : CellMark → Line
column_of mark = record { absolute = mark.absolute_column; number = mark.column }

abbrev row_of : CellMark → Line
row_of mark = record { absolute = mark.absolute_row; number = mark.row }

abbrev IsSide : Side → Text → Type 0
IsSide (side.Cell mark) = IsCell mark
IsSide (side.Column l) = LineIs column_of_name l
IsSide (side.Row l) = LineIs row_of_name l

-- a text of two parts before a rest
pair_parts : (first middle second rest : Text) → (first ++ (middle ++ second)) ++ rest ≡ first ++ (middle ++ (second ++ rest))
pair_parts first middle second rest = append_assoc first (middle ++ second) rest ∙ ap (λ (x : Text). first ++ x) (append_assoc middle second rest)

corner_sound : (text : Text) → Brings (λ r. Front (IsSide r.0) text r.1) (corner_at text)
unfolding corner_at
corner_sound text = go (column_at text) (line_sound column_of_name is_letter text)
  where
    row : (column : Line) (rest : Text) → Front (LineIs column_of_name column) text rest → (o : Option (Line × Text))
        → Brings (λ r. Front (LineIs row_of_name r.0) rest r.1) o → Brings (λ r. Front (IsSide r.0) text r.1) (with_row column rest o)
    row column rest f None g = brings f
    row column rest f (Some r) g = let h = g.read in brings (record {
      spelled = f.spelled ++ h.spelled;
      parts = rw (f.parts, h.parts, append_assoc f.spelled h.spelled r.1);
      is = record { first = f.spelled; second = h.spelled; parts = refl; is_first = f.is; is_second = h.is };
    })

    go : (o : Option (Line × Text)) → Brings (λ r. Front (LineIs column_of_name r.0) text r.1) o → Brings (λ r. Front (IsSide r.0) text r.1) (with_column text o)
    go None f = brings_map _ (row_at text) (line_sound row_of_name is_digit text) (λ r g. g)
    go (Some c) f = row c.0 c.1 f.read (row_at c.1) (line_sound row_of_name is_digit c.1)

corner_read : (x : Side) (s rest : Text) → IsSide x s → stops goes_on_place rest ≡ true → corner_at (s ++ rest) ≡ Some (x, rest)
unfolding corner_at
corner_read (side.Cell mark) s rest is ends =
    rw (
      is.parts,
      append_assoc is.first is.second rest,
      line_read column_of_name is_letter columns_named (column_of mark) is.first (is.second ++ rest) is.is_first (row_no_letter mark.absolute_row mark.row is.second rest is.is_second),
      line_read row_of_name is_digit rows_named (row_of mark) is.second rest is.is_second (stops_sooner is_digit goes_on_place place_no_digit rest ends),
    )
corner_read (side.Column l) s rest is ends =
    rw (
      line_read column_of_name is_letter columns_named l s rest is (stops_sooner is_letter goes_on_place place_no_letter rest ends),
      no_row rest (stops_sooner (λ c. c == 36) goes_on_place (λ c e. grind (arith, nat_tests)) rest ends) (stops_sooner is_digit goes_on_place place_no_digit rest ends),
    )
corner_read (side.Row l) s rest is ends =
    let letter = name_stops row_of_name is_digit rows_named is_letter digit_no_letter is.name l.number rest is.named in
    rw (
      no_column (s ++ rest) l.absolute (is.name ++ rest) (line_dollar row_of_name is_digit rows_named l.absolute l.number s rest is) letter,
      line_read row_of_name is_digit rows_named l s rest is (stops_sooner is_digit goes_on_place place_no_digit rest ends),
    )

-- ---- ranges and cells

abbrev pub Marks : Type 0
Marks = CellMark × CellMark

abbrev pub ranged : Option (Marks × Text) → Option (Spot × Text)
ranged = option_map (λ r. (spot.Range r.0.0 r.0.1, r.1))

abbrev pub IsSpot : Spot → Text → Type 0
IsSpot (spot.Cell mark) s = IsCell mark s
IsSpot (spot.Range a b) s = IsRange a b s

-- what stands at the front, where a place may end
pub record Placed (Is : Text → Type 0) (text rest : Text) : Type 0 where
  pub spelled : Text
  pub parts : text ≡ spelled ++ rest
  pub is : Is spelled
  pub ends : stops goes_on_place rest ≡ true

between_sound : (a b : Side) (s t : Text) → IsSide a s → IsSide b t → Brings (λ r. IsRange r.0 r.1 (s ++ (58 ∷ t))) (between a b)
between_sound (side.Cell a) (side.Cell b) s t f g = brings (cells (record { first = s; second = t; parts = refl; is_first = f; is_second = g }))
between_sound (side.Column a) (side.Column b) s t f g =
    brings (columns (record { first = s; second = t; parts = refl; is_first = f; is_second = g }) refl refl)
between_sound (side.Row a) (side.Row b) s t f g = brings (rows (record { first = s; second = t; parts = refl; is_first = f; is_second = g }) refl refl)
between_sound _ _ s t f g = nothing

pub range_sound : (a : Side) (s text : Text) → IsSide a s → Brings (λ r. Placed (IsRange r.0.0 r.0.1) (s ++ text) r.1) (range_behind a text)
unfolding range_behind
range_sound a s text is = brings_then _ _ (past_sound 58 text) (λ z e. brings_then _ _ (corner_sound z) (λ p f. brings_cond (stops goes_on_place p.1) _ _
    (λ ends. brings_map _ _ (between_sound a p.0 s f.spelled is f.is) (λ x range.
    record { spelled = s ++ (58 ∷ f.spelled); parts = rw (e, f.parts, append_assoc s (58 ∷ f.spelled) p.1); is = range; ends = ends }))
    (λ h. nothing)))

alone_sound : (a : Side) (s text : Text) → IsSide a s → Brings (λ r. Placed (IsSpot r.0) (s ++ text) r.1) (cell_alone a text)
alone_sound (side.Cell mark) s text is =
    brings_cond (stops goes_on_place text) _ _ (λ ends. brings (record { spelled = s; parts = refl; is = is; ends = ends })) (λ h. nothing)
alone_sound _ s text is = nothing

pub spot_sound : (text : Text) → Brings (λ r. Placed (IsSpot r.0) text r.1) (spot_at text)
unfolding spot_at
spot_sound text = brings_then _ _ (corner_sound text) (λ p f. rw f.parts
    (brings_or _ _ _ (range_sound p.0 f.spelled p.1 f.is) (λ r g. g) (λ h. alone_sound p.0 f.spelled p.1 f.is)))

span_read : (a b : Side) (x : Marks) (s rest : Text) → between a b ≡ Some x → IsSpan (IsSide a) (IsSide b) s → stops goes_on_place rest ≡ true → spot_at (s ++ rest) ≡ Some (spot.Range x.0 x.1, rest)
unfolding spot_at range_behind
span_read a b x s rest e is ends =
    rw (is.parts, pair_parts is.first (58 ∷ []) is.second rest, corner_read a is.first (58 ∷ (is.second ++ rest)) is.is_first (ap not colon_ends), corner_read b is.second rest is.is_second ends, ends, e)

pub range_read : (a b : CellMark) (s rest : Text) → IsRange a b s → stops goes_on_place rest ≡ true → spot_at (s ++ rest) ≡ Some (spot.Range a b, rest)
range_read a b s rest (cells is) ends = span_read (side.Cell a) (side.Cell b) (a, b) s rest refl is ends
range_read a b s rest (columns is on_first on_last) ends =
    span_read (side.Column (column_of a)) (side.Column (column_of b)) (a, b) s rest (rw (on_first, on_last)) is ends
range_read a b s rest (rows is on_first on_last) ends =
    span_read (side.Row (row_of a)) (side.Row (row_of b)) (a, b) s rest (rw (on_first, on_last)) is ends

-- where a cell stands, it is read, or else a range
pub cell_read : (mark : CellMark) (s rest : Text) → IsCell mark s → stops goes_on_place rest ≡ true → spot_at (s ++ rest) ≡ option_or (ranged (range_behind (side.Cell mark) rest)) (Some (spot.Cell mark, rest))
unfolding spot_at
cell_read mark s rest is ends = rw (corner_read (side.Cell mark) s rest is ends, ends)

-- ---- where none is read

no_start : (text : Text) → stops (λ c. c == 36) text ≡ true → stops is_letter text ≡ true → stops is_digit text ≡ true → spot_at text ≡ None
unfolding spot_at corner_at
no_start text d l n = rw (no_column text false text (dollar_none text d) l, no_row text d n)

pub no_spot : spot_at [] ≡ None
no_spot = no_start [] refl refl refl

sign_no_spot : (c : ℕ) (text : Text) → is_sign c ≡ true → spot_at (c ∷ text) ≡ None
sign_no_spot c text e = no_start (c ∷ text) (grind (arith, nat_tests)) (grind (arith, nat_tests)) (grind (arith, nat_tests))

-- no place begins with a sign
pub spot_starts : (q : ℕ → Bool) → ((c : ℕ) → q c ≡ true → is_sign c ≡ true) → (text : Text) (r : Spot × Text) → spot_at text ≡ Some r → stops q text ≡ true
spot_starts q h [] r e = refl
spot_starts q h (c ∷ text) r e = not_from_false (q c) (false_from_ne_true (q c) (λ f. (let x = sym (sign_no_spot c text (h c f)) ∙ e in absurd cc)))

-- no cell begins with a digit
pub cell_no_digit : (mark : CellMark) (s rest : Text) → IsCell mark s → stops is_digit (s ++ rest) ≡ true
cell_no_digit mark s rest is =
    ap (stops is_digit) (ap (λ (x : Text). x ++ rest) is.parts ∙ append_assoc is.first is.second rest)
    ∙ line_stops column_of_name is_letter columns_named is_digit refl (λ c h. grind (arith, nat_tests)) mark.absolute_column mark.column is.first (is.second ++ rest) is.is_first

-- ---- no place stands before a mark that follows a word

abbrev Unmarked : Text → Type 0
Unmarked s = list_all no_mark s ≡ true

pair_unmarked : (First Second : Text → Type 0) (middle : Text) → ((s : Text) → First s → Unmarked s) → Unmarked middle → ((s : Text) → Second s → Unmarked s) → (s : Text) → IsPair First middle Second s → Unmarked s
pair_unmarked First Second middle f g h s is =
    ap (list_all no_mark) is.parts ∙ list_all-append no_mark is.first (middle ++ is.second)
    ∙ and_from _ _ (f is.first is.is_first) (list_all-append no_mark middle is.second ∙ and_from _ _ g (h is.second is.is_second))

side_unmarked : (x : Side) (s : Text) → IsSide x s → Unmarked s
side_unmarked (side.Cell mark) =
    pair_unmarked (IsColumn mark) (IsRow mark) [] (line_unmarked column_of_name is_letter columns_named mark.absolute_column mark.column) refl
    (line_unmarked row_of_name is_digit rows_named mark.absolute_row mark.row)
side_unmarked (side.Column l) = line_unmarked column_of_name is_letter columns_named l.absolute l.number
side_unmarked (side.Row l) = line_unmarked row_of_name is_digit rows_named l.absolute l.number

span_unmarked : (a b : Side) (s : Text) → IsSpan (IsSide a) (IsSide b) s → Unmarked s
span_unmarked a b = pair_unmarked (IsSide a) (IsSide b) (58 ∷ []) (side_unmarked a) refl (side_unmarked b)

spot_unmarked : (x : Spot) (s : Text) → IsSpot x s → Unmarked s
spot_unmarked (spot.Cell mark) s is = side_unmarked (side.Cell mark) s is
spot_unmarked (spot.Range a b) s (cells is) = span_unmarked (side.Cell a) (side.Cell b) s is
spot_unmarked (spot.Range a b) s (columns is on_first on_last) = span_unmarked (side.Column (column_of a)) (side.Column (column_of b)) s is
spot_unmarked (spot.Range a b) s (rows is on_first on_last) = span_unmarked (side.Row (row_of a)) (side.Row (row_of b)) s is

-- what has no mark in it ends inside the word or before the mark, where no place ends
unmarked_goes_on : (word tail s rest : Text) → list_all goes_on_word word ≡ true → list_all no_mark s ≡ true → word ++ (33 ∷ tail) ≡ s ++ rest → stops goes_on_place rest ≡ true → ⊥
unmarked_goes_on [] tail [] rest w n e ends = both_ways _ (not_true _ (ap (stops goes_on_place) e ∙ ends)) (or_right (goes_on_word 33) _ refl)
unmarked_goes_on (c ∷ word) tail [] rest w n e ends =
    both_ways _ (not_true _ (ap (stops goes_on_place) e ∙ ends)) (or_left (goes_on_word c) _ (and_parts (goes_on_word c) (list_all goes_on_word word) w).0)
unmarked_goes_on [] tail (d ∷ s) rest w n e ends =
    let is : 33 ≡ d = cc in
    let h : no_mark 33 ≡ true = ap no_mark is ∙ (and_parts (no_mark d) (list_all no_mark s) n).0 in
    absurd cc
unmarked_goes_on (c ∷ word) tail (d ∷ s) rest w n e ends =
    unmarked_goes_on word tail s rest (and_parts (goes_on_word c) (list_all goes_on_word word) w).1 (and_parts (no_mark d) (list_all no_mark s) n).1 (cc) ends

pub word_no_spot : (word tail : Text) → list_all goes_on_word word ≡ true → spot_at (word ++ (33 ∷ tail)) ≡ None
word_no_spot word tail w = brings_none _ (spot_sound (word ++ (33 ∷ tail))) (λ r f.
    unmarked_goes_on word tail f.spelled r.1 w (spot_unmarked r.0 f.spelled f.is) f.parts f.ends)
