-- Every command that is read fits.
use Rattle.std.proofs.Common.{◌≡◌, ℕ, zero, suc, ℤ, pos, ◌+ℤ◌, ◌-ℤ◌, ◌+◌, ◌*◌, ◌^◌, ◌<◌, ◌≤◌, ◌≤ℤ◌, ◌==◌, Bool, true, false, cond, List, [], ◌∷◌, ◌++◌, length, Option, Some, None, take, refl, ap, sym, subst, arith, w32}
use Rattle.std.specs.Prelude.{codes, IfSome, FitsSigned, neg_ℤ, nat_lt, int_le}
use Rattle.std.specs.Option.{option_and_then, option_map, option_or}
use Rattle.std.specs.Str.{IsUtf8, is_utf8, bytes_eq}
use Rattle.std.specs.List.{list_all, find, AllByRecursion}
use Rattle.std.proofs.lemmas.Str.{IsUtf8-nil, IsUtf8-drop, IsUtf8-take, IsCharBoundary-after_ascii, IsCharBoundary-before_ascii, IsUtf8-from_is_utf8}
use Rattle.std.proofs.lemmas.List.Splits.{join_with_byte-slice_split}
use Rattle.std.proofs.lemmas.List.{length-append}
use Rattle.std.proofs.Math.Seq.{get_or-append_seam, drop-append-add}
use Rattle.std.proofs.lemmas.Bool.{ltb-true, and_parts}
use Rattle.std.proofs.lemmas.Bool.Decides.{nat_tests}
use Rattle.std.proofs.lemmas.Int.{ints}
use Rattle.script_lines.specs.Parts.{parts_at, text_of}
use Rattle.script_lines.specs.Number.{are_digits, value_of, value_below, number_below, signed_number}
use Rattle.base_tables.specs.Column.{is_between, is_letter, letters_number}
use Rattle.base_tables.specs.laws.ColumnLaws.{value_bounds}
use Rattle.script_lines.specs.References.{read_column, read_row, letters_of, digits_of, reference_of, first_between, count_between, area_between, area_of_parts, area_of}
use Rattle.script_lines.proofs.ReferenceBounds.{read_row-lt}
use Rattle.script_lines.proofs.Letters.{all_letters}
use Rattle.script_lines.specs.Colors.{color_of, parts_in, parts_of}
use Rattle.style_edits.specs.Colors.{color_written, digit_color, color_of_digits, color_of_pairs, pair_value, hex_value}
use Rattle.std.specs.Char.{is_digit, digit_value}
use Rattle.base_tables.specs.Tables.{entry_named}
use Rattle.base_styles.specs.Colors.{theme_color_name, all_theme_colors}
use Rattle.base_styles.specs.declared.Color.{Color}
use Rattle.base_styles.specs.declared.RgbColor.{RgbColor}
use Rattle.base_styles.specs.declared.Color.TheVariants.{None as NoColor, Rgb, Theme}
use Rattle.script_lines.specs.Escapes.{unescaped}
use Rattle.script_lines.proofs.EscapeLaws.{unescaped-IsUtf8}
use Rattle.script_lines.specs.Commands.{Reader, word, sheet_word, cell_words, area_words, lines_words, move_words, sheet_move_words, rule_words, swap_words, run_words, color_words, grid_words, bit_of, scope_of, name_of, name_words, update_words, path_words, fill_words, count_words, two_parts, theme_words, ended, with_text, Table, by_table, exactly, Readers, by_reader, alone, only, only_text, and_text, cell_commands, cell_command, area_commands, area_command, fill_commands, fill_command, lines_commands, lines_command, move_commands, move_command, count_commands, count_command, sheet_commands, sheet_command, single_commands, single_command, text_commands, text_command, word_commands, word_command, place_command, line_command, from_words, command_of}
use Rattle.script_lines.specs.declared.reference.Reference.{Reference}
use Rattle.script_lines.specs.declared.command.Command.{Command}
use Rattle.script_lines.specs.declared.command.Command.TheVariants.{Set, Make, Array, Link, NewSheet, MoveSheet, RenameSheet, SheetColor, GridLines, Name, NameUpdate, NameDelete, Undo, Redo, Sync, Show, Style, Title, ThemeColors, Locale, Zone, Language, Rule, RuleDelete, RuleSwap}
use Rattle.script_lines.specs.CommandFits.{IsNamed, IsNamedArea, CellFits, AreaFits, LinesFit, MoveFits, SheetFits, SheetMoveFits, IsNamedColor, ColorFits, GridFits, NameFits, PathFits, UpdateFits, CommandFits, CountFits, PartsFit, ThemeFits, FillFits, RuleFits, SwapFits, RunFits}

-- ---- lists

-- what holds of the first, and of the others
infixr 10 ◌▸◌
abbrev pub ◌▸◌ : {A B : Type 0} → A → B → A × B
a ▸ b = (a, b)

-- ---- options

step : {A B : Type 0} (Q : A → Type 0) (P : B → Type 0) (o : Option A) (f : A → Option B) → IfSome o Q → ((a : A) → Q a → IfSome (f a) P) → IfSome (option_and_then f o) P
step Q P None f q h = tt
step Q P (Some a) f q h = h a q

either : {A : Type 0} (P : A → Type 0) (b : Bool) (x y : Option A) → IfSome x P → IfSome y P → IfSome (cond b x y) P
either P true x y p q = p
either P false x y p q = q

found_fits : {A : Type 0} (P : A → Type 0) (test : A → Bool) (entries : List A) → AllByRecursion P entries → IfSome (find test entries) P
found_fits P test [] h = tt
found_fits P test (entry ∷ entries) h = either P (test entry) (Some entry) (find test entries) h.0 (found_fits P test entries h.1)

-- ---- sheets

below : (limit : ℕ) (bytes : List ℕ) → IfSome (value_below limit bytes) (λ v. v < limit)
below limit bytes = go (nat_lt (value_of bytes) limit) refl
  where
    go : (b : Bool) → nat_lt (value_of bytes) limit ≡ b → IfSome (cond b (Some (value_of bytes)) None) (λ v. v < limit)
    go true e = ltb-true (value_of bytes) limit e
    go false e = tt

number_fits : (limit : ℕ) (bytes : List ℕ) → IfSome (number_below limit bytes) (λ v. v < limit)
number_fits limit [] = tt
number_fits limit (b ∷ bytes) = either (λ v. v < limit) (are_digits (b ∷ bytes)) (value_below limit (b ∷ bytes)) None (below limit (b ∷ bytes)) tt

-- ---- rows and counts

mapped : {A B : Type 0} (Q : A → Type 0) (P : B → Type 0) (o : Option A) (f : A → B) → IfSome o Q → ((a : A) → Q a → P (f a)) → IfSome (option_map f o) P
mapped Q P None f q h = tt
mapped Q P (Some a) f q h = h a q

positive_fits : (n : ℕ) → n < 2 ^ 31 → FitsSigned w32 (pos n)
positive_fits n lt = record { sfits = omega (arith, lt) }

negative_fits : (n : ℕ) → n < 2 ^ 31 + 1 → FitsSigned w32 (neg_ℤ (pos n))
negative_fits zero lt = record { sfits = omega arith }
negative_fits (suc n) lt = record { sfits = omega (arith, lt) }

signed_fits : (bytes : List ℕ) → IfSome (signed_number bytes) (FitsSigned w32)
signed_fits [] = tt
signed_fits (b ∷ bytes) =
    either (FitsSigned w32) (b == 45) (option_map (λ n. neg_ℤ (pos n)) (number_below (2 ^ 31 + 1) bytes)) (option_map pos (number_below (2 ^ 31) (b ∷ bytes)))
    (mapped (λ n. n < 2 ^ 31 + 1) (FitsSigned w32) (number_below (2 ^ 31 + 1) bytes) (λ n. neg_ℤ (pos n)) (number_fits (2 ^ 31 + 1) bytes) negative_fits)
    (mapped (λ n. n < 2 ^ 31) (FitsSigned w32) (number_below (2 ^ 31) (b ∷ bytes)) pos (number_fits (2 ^ 31) (b ∷ bytes)) positive_fits)

-- ---- rows and columns

column_fits : (letters : List ℕ) → list_all is_letter letters ≡ true → IfSome (read_column letters) (λ column. (1 ≤ column) × (column ≤ 18278))
column_fits [] e = tt
column_fits (a ∷ []) e =
    let x = value_bounds a (and_parts _ _ e).0 in (omega (arith, x), omega (arith, x))
column_fits (a ∷ b ∷ []) e =
    let f = and_parts _ _ e in
    let g = and_parts _ _ f.1 in
    let x = value_bounds a f.0 in
    let y = value_bounds b g.0 in
    (omega (arith, x, y), omega (arith, x, y))
column_fits (a ∷ b ∷ c ∷ []) e =
    let f = and_parts _ _ e in
    let g = and_parts _ _ f.1 in
    let h = and_parts _ _ g.1 in
    let x = value_bounds a f.0 in
    let y = value_bounds b g.0 in
    let z = value_bounds c h.0 in
    (omega (arith, x, y, z), omega (arith, x, y, z))
column_fits (a ∷ b ∷ c ∷ d ∷ letters) e = go (is_between 1 3 (length (a ∷ b ∷ c ∷ d ∷ letters))) refl
  where
    go : (t : Bool) → is_between 1 3 (length (a ∷ b ∷ c ∷ d ∷ letters)) ≡ t
        → IfSome (cond t (Some (letters_number (a ∷ b ∷ c ∷ d ∷ letters))) None) (λ column. (1 ≤ column) × (column ≤ 18278))
    go true is = let few : length (a ∷ b ∷ c ∷ d ∷ letters) ≤ 3 = grind (arith, nat_tests) in absurd (omega arith)
    go false is = tt

named : (column row : ℕ) → (1 ≤ column) × (column ≤ 18278) → row < 10000000 → IsNamed (pos row) (pos column)
named column row c r = record { row_low = omega (arith, ints); row_high = omega (arith, ints); column_low = omega (arith, ints, c); column_high = omega (arith, ints, c) }

row_step : (column : ℕ) (o : Option ℕ) → (1 ≤ column) × (column ≤ 18278) → IfSome o (λ row. row < 10000000)
    → IfSome (option_map (λ row. let place : Reference = record { row = pos row; column = pos column } in place) o) (λ place. IsNamed place.row place.column)
row_step column None c r = tt
row_step column (Some row) c r = named column row c r

pub reference_fits : (bytes : List ℕ) → IfSome (reference_of bytes) (λ place. IsNamed place.row place.column)
reference_fits bytes =
    step (λ column. (1 ≤ column) × (column ≤ 18278)) (λ (place : Reference). IsNamed place.row place.column) (read_column (letters_of bytes)) _ (column_fits (letters_of bytes) (all_letters bytes))
    (λ column c. row_step column (read_row (digits_of bytes)) c (read_row-lt (digits_of bytes)))

-- ---- areas

-- lines from one to another, in any order, where both stand between two bounds
record Between (low high first count : ℤ) : Type 0 where
  from : low ≤ℤ first
  to : first ≤ℤ high
  some : pos 1 ≤ℤ count
  few : count ≤ℤ ((high -ℤ low) +ℤ pos 1)

between : (low high a b : ℤ) → low ≤ℤ a → a ≤ℤ high → low ≤ℤ b → b ≤ℤ high → Between low high (first_between a b) (count_between a b)
between low high a b p q r s = go (int_le a b) refl
  where
    go : (t : Bool) → int_le a b ≡ t → Between low high (cond t a b) (cond t ((b -ℤ a) +ℤ pos 1) ((a -ℤ b) +ℤ pos 1))
    go true e = record { from = p; to = q; some = omega (arith, ints); few = omega (arith, ints) }
    go false e = record { from = r; to = s; some = omega (arith, ints); few = omega (arith, ints) }

corners_fit : (a b : Reference) → IsNamed a.row a.column → IsNamed b.row b.column → IsNamedArea (area_between a b)
corners_fit a b p q =
    let rows = between (pos 0) (pos 9999999) a.row b.row p.row_low p.row_high q.row_low q.row_high in
    let columns = between (pos 1) (pos 18278) a.column b.column p.column_low p.column_high q.column_low q.column_high in
    record {
      first = record { row_low = rows.from; row_high = rows.to; column_low = columns.from; column_high = columns.to };
      wide = columns.some;
      width = columns.few;
      high = rows.some;
      height = rows.few;
    }

area_fits : (parts : List (List ℕ)) → IfSome (area_of_parts parts) IsNamedArea
area_fits [] = tt
area_fits (place ∷ []) =
    mapped (λ (place : Reference). IsNamed place.row place.column) IsNamedArea (reference_of place) _ (reference_fits place)
    (λ place p. record { first = p; wide = omega (arith, ints); width = omega (arith, ints); high = omega (arith, ints); height = omega (arith, ints) })
area_fits (one ∷ other ∷ []) =
    step (λ (place : Reference). IsNamed place.row place.column) IsNamedArea (reference_of one) _ (reference_fits one)
    (λ a p. mapped (λ (place : Reference). IsNamed place.row place.column) IsNamedArea (reference_of other) (area_between a) (reference_fits other) (λ b q. corners_fit a b p q))
area_fits (one ∷ other ∷ more ∷ parts) = tt

-- ---- colours

any_value : {A : Type 0} (o : Option A) → IfSome o (λ value. Unit {0})
any_value None = tt
any_value (Some value) = tt

digit_fits : (b : ℕ) → IfSome (hex_value b) (λ v. v < 16)
digit_fits b = go (is_digit b 16) refl
  where
    go : (t : Bool) → is_digit b 16 ≡ t → IfSome (cond t (Some (digit_value b)) None) (λ v. v < 16)
    go true e = grind (arith, nat_tests)
    go false e = tt

pair_fits : (high low : ℕ) → IfSome (pair_value high low) (λ v. v < 2 ^ 8)
unfolding pair_value
pair_fits high low =
    step (λ v. v < 16) (λ v. v < 2 ^ 8) (hex_value high) _ (digit_fits high)
    (λ h p. mapped (λ v. v < 16) (λ v. v < 2 ^ 8) (hex_value low) (λ l. h * 16 + l) (digit_fits low) (λ l q. omega (arith, p, q)))

pairs_fit : (red green blue : Option ℕ) → IfSome red (λ v. v < 2 ^ 8) → IfSome green (λ v. v < 2 ^ 8) → IfSome blue (λ v. v < 2 ^ 8) → IfSome (color_of_pairs red green blue) IsNamedColor
unfolding color_of_pairs
pairs_fit None green blue p q r = tt
pairs_fit (Some red) None blue p q r = tt
pairs_fit (Some red) (Some green) None p q r = tt
pairs_fit (Some red) (Some green) (Some blue) p q r = (p, q, r)

digits_fit : (digits : List ℕ) → IfSome (color_of_digits digits) IsNamedColor
digits_fit (r ∷ g ∷ b ∷ []) = pairs_fit _ _ _ (pair_fits r r) (pair_fits g g) (pair_fits b b)
digits_fit (r ∷ s ∷ g ∷ h ∷ b ∷ c ∷ []) = pairs_fit _ _ _ (pair_fits r s) (pair_fits g h) (pair_fits b c)
digits_fit _ = tt

digit_color_fits : (bytes : List ℕ) → IfSome (digit_color bytes) IsNamedColor
digit_color_fits [] = tt
digit_color_fits (sign ∷ digits) = either IsNamedColor (sign == 35) (color_of_digits digits) None (digits_fit digits) tt

either_fits : {A : Type 0} (P : A → Type 0) (x y : Option A) → IfSome x P → IfSome y P → IfSome (option_or x y) P
either_fits P None y p q = q
either_fits P (Some a) y p q = p

theme_color_fits : (bytes : List ℕ) → IfSome (option_map Theme (entry_named theme_color_name all_theme_colors bytes)) IsNamedColor
theme_color_fits bytes =
    let named = entry_named theme_color_name all_theme_colors bytes in
    mapped (λ color. Unit {0}) IsNamedColor named Theme (any_value named) (λ color p. tt)

written_fits : (bytes : List ℕ) → IfSome (color_written bytes) IsNamedColor
written_fits bytes =
    either_fits IsNamedColor (option_map Theme (entry_named theme_color_name all_theme_colors bytes)) (digit_color bytes) (theme_color_fits bytes) (digit_color_fits bytes)

color_fits : (bytes : List ℕ) → IfSome (color_of bytes) IsNamedColor
color_fits bytes = either IsNamedColor (bytes_eq bytes (codes "-")) (Some NoColor) (color_written bytes) tt (written_fits bytes)

-- ---- parts of colours

parts_in_fit : (color : Color) → IsNamedColor color → IfSome (parts_in color) PartsFit
parts_in_fit (Rgb red green blue) fits = fits
parts_in_fit _ fits = tt

parts_fit : (bytes : List ℕ) → IfSome (parts_of bytes) PartsFit
parts_fit bytes =
    either PartsFit (length bytes == 7) (option_and_then parts_in (color_written bytes)) None
    (step IsNamedColor PartsFit (color_written bytes) parts_in (written_fits bytes) parts_in_fit) tt

-- ---- texts

behind_space : (word rest : List ℕ) → IsUtf8 (word ++ 32 ∷ rest) → IsUtf8 rest
behind_space word rest h =
    let space = get_or-append_seam word 32 rest 0 in
    let boundary = IsCharBoundary-after_ascii (word ++ 32 ∷ rest) (length word) h (omega (arith, length-append word (32 ∷ rest))) (omega (arith, space)) in
    subst IsUtf8 (drop-append-add word (32 ∷ rest) 1) (IsUtf8-drop (word ++ 32 ∷ rest) (length word + 1) h boundary)

rest_text : (word : List ℕ) (words : List (List ℕ)) → IsUtf8 (text_of (word ∷ words)) → IsUtf8 (text_of words)
rest_text word [] h = IsUtf8-nil
rest_text word (next ∷ words) h = behind_space word (text_of (next ∷ words)) h

-- ---- words

-- a value with a property, and a text in UTF-8 behind it
abbrev Fit : {A : Type 0} → (A → Type 0) → A × List (List ℕ) → Type 0
Fit P found = P found.0 × IsUtf8 (text_of found.1)

-- what is read from words in UTF-8 is so
abbrev Reads : {A : Type 0} → (A → Type 0) → Reader A → Type 0
Reads P read = (words : List (List ℕ)) → IsUtf8 (text_of words) → IfSome (read words) (Fit P)

word_fits : {A : Type 0} (P : A → Type 0) (read : List ℕ → Option A) → ((bytes : List ℕ) → IfSome (read bytes) P) → Reads P (word read)
word_fits P read h [] t = tt
word_fits P read h (first ∷ words) t = mapped P (Fit P) (read first) (λ value. (value, words)) (h first) (λ value p. (p, rest_text first words t))

sheet_fits : Reads (λ sheet. sheet < 2 ^ 32) sheet_word
sheet_fits words t = word_fits (λ sheet. sheet < 2 ^ 32) (number_below (2 ^ 32)) (number_fits (2 ^ 32)) words t

cell_fits : Reads CellFits cell_words
cell_fits words t =
    step (Fit (λ sheet. sheet < 2 ^ 32)) (Fit CellFits) (sheet_word words) _ (sheet_fits words t)
    (λ sheet s. step (Fit (λ (place : Reference). IsNamed place.row place.column)) (Fit CellFits) (word reference_of sheet.1) _
    (word_fits (λ (place : Reference). IsNamed place.row place.column) reference_of reference_fits sheet.1 s.1)
    (λ place p. ((s.0, p.0), p.1)))

area_words_fit : Reads AreaFits area_words
area_words_fit words t =
    step (Fit (λ sheet. sheet < 2 ^ 32)) (Fit AreaFits) (sheet_word words) _ (sheet_fits words t)
    (λ sheet s. step (Fit IsNamedArea) (Fit AreaFits) (word area_of sheet.1) _ (word_fits IsNamedArea area_of (λ bytes. area_fits (parts_at 58 bytes)) sheet.1 s.1)
    (λ area p. ((s.0, p.0), p.1)))

signed_word_fits : Reads (FitsSigned w32) (word signed_number)
signed_word_fits words t = word_fits (FitsSigned w32) signed_number signed_fits words t

lines_fit : Reads LinesFit lines_words
lines_fit words t =
    step (Fit (λ sheet. sheet < 2 ^ 32)) (Fit LinesFit) (sheet_word words) _ (sheet_fits words t)
    (λ sheet s. step (Fit (FitsSigned w32)) (Fit LinesFit) (word signed_number sheet.1) _ (signed_word_fits sheet.1 s.1)
    (λ first f. step (Fit (FitsSigned w32)) (Fit LinesFit) (word signed_number first.1) _ (signed_word_fits first.1 f.1)
    (λ count c. ((s.0, f.0, c.0), c.1))))

move_fits : Reads MoveFits move_words
move_fits words t =
    step (Fit LinesFit) (Fit MoveFits) (lines_words words) _ (lines_fit words t)
    (λ lines l. step (Fit (FitsSigned w32)) (Fit MoveFits) (word signed_number lines.1) _ (signed_word_fits lines.1 l.1)
    (λ delta d. ((l.0.0, l.0.1, l.0.2, d.0), d.1)))

fill_words_fit : Reads FillFits fill_words
fill_words_fit words t =
    step (Fit AreaFits) (Fit FillFits) (area_words words) _ (area_words_fit words t)
    (λ named a. step (Fit (FitsSigned w32)) (Fit FillFits) (word signed_number named.1) _ (signed_word_fits named.1 a.1) (λ to n. ((a.0.0, a.0.1, n.0), n.1)))

count_fits : Reads CountFits count_words
count_fits words t =
    step (Fit SheetFits) (Fit CountFits) (sheet_word words) _ (sheet_fits words t)
    (λ sheet s. step (Fit (FitsSigned w32)) (Fit CountFits) (word signed_number sheet.1) _ (signed_word_fits sheet.1 s.1) (λ count c. ((s.0, c.0), c.1)))

sheet_move_fits : Reads SheetMoveFits sheet_move_words
sheet_move_fits words t =
    step (Fit SheetFits) (Fit SheetMoveFits) (sheet_word words) _ (sheet_fits words t)
    (λ from f. step (Fit SheetFits) (Fit SheetMoveFits) (sheet_word from.1) _ (sheet_fits from.1 f.1) (λ to s. ((f.0, s.0), s.1)))

rule_words_fit : Reads RuleFits rule_words
rule_words_fit words t =
    step (Fit SheetFits) (Fit RuleFits) (sheet_word words) _ (sheet_fits words t)
    (λ sheet s. step (Fit SheetFits) (Fit RuleFits) (sheet_word sheet.1) _ (sheet_fits sheet.1 s.1) (λ index i. ((s.0, i.0), i.1)))

swap_words_fit : Reads SwapFits swap_words
swap_words_fit words t =
    step (Fit SheetFits) (Fit SwapFits) (sheet_word words) _ (sheet_fits words t)
    (λ sheet s. step (Fit SheetFits) (Fit SwapFits) (sheet_word sheet.1) _ (sheet_fits sheet.1 s.1)
    (λ index_a a. step (Fit SheetFits) (Fit SwapFits) (sheet_word index_a.1) _ (sheet_fits index_a.1 a.1) (λ index_b b. ((s.0, a.0, b.0), b.1))))

run_words_fit : Reads RunFits run_words
run_words_fit words t =
    step (Fit (λ seed. seed < 2 ^ 64)) (Fit RunFits) (word (number_below (2 ^ 64)) words) _ (word_fits (λ seed. seed < 2 ^ 64) (number_below (2 ^ 64)) (number_fits (2 ^ 64)) words t)
    (λ seed s. step (Fit (λ count. count < 100001)) (Fit RunFits) (word (number_below 100001) seed.1) _
    (word_fits (λ count. count < 100001) (number_below 100001) (number_fits 100001) seed.1 s.1) (λ count c. ((s.0, c.0), c.1)))

color_words_fit : Reads ColorFits color_words
color_words_fit words t =
    step (Fit SheetFits) (Fit ColorFits) (sheet_word words) _ (sheet_fits words t)
    (λ sheet s. step (Fit IsNamedColor) (Fit ColorFits) (word color_of sheet.1) _ (word_fits IsNamedColor color_of color_fits sheet.1 s.1) (λ color c. ((s.0, c.0), c.1)))

grid_fits : Reads GridFits grid_words
grid_fits words t =
    step (Fit SheetFits) (Fit GridFits) (sheet_word words) _ (sheet_fits words t)
    (λ sheet s. step (Fit (λ show. Unit {0})) (Fit GridFits) (word bit_of sheet.1) _ (word_fits (λ show. Unit {0}) bit_of (λ bytes. any_value (bit_of bytes)) sheet.1 s.1)
    (λ show b. (s.0, b.1)))

-- the first word of a text in UTF-8 is so
take_front : (xs ys : List ℕ) → take (length xs) (xs ++ ys) ≡ xs
take_front [] ys = refl
take_front (x ∷ xs) ys = ap (λ zs. x ∷ zs) (take_front xs ys)

before_space : (word rest : List ℕ) → IsUtf8 (word ++ 32 ∷ rest) → IsUtf8 word
before_space word rest h =
    let space = get_or-append_seam word 32 rest 0 in
    let boundary = IsCharBoundary-before_ascii (word ++ 32 ∷ rest) (length word) (omega (arith, length-append word (32 ∷ rest))) (omega (arith, space)) in
    subst IsUtf8 (take_front word (32 ∷ rest)) (IsUtf8-take (word ++ 32 ∷ rest) (length word) h boundary)

first_word : (first : List ℕ) (words : List (List ℕ)) → IsUtf8 (text_of (first ∷ words)) → IsUtf8 first
first_word first [] t = t
first_word first (next ∷ words) t = before_space first (text_of (next ∷ words)) t

scope_fits : (bytes : List ℕ) → IfSome (scope_of bytes) (λ scope. IfSome scope SheetFits)
scope_fits bytes =
    either (λ scope. IfSome scope SheetFits) (bytes_eq bytes (codes "-")) (Some None) (option_map Some (number_below (2 ^ 32) bytes)) tt
    (mapped SheetFits (λ scope. IfSome scope SheetFits) (number_below (2 ^ 32) bytes) Some (number_fits (2 ^ 32) bytes) (λ n fits. fits))

name_word_fits : Reads IsUtf8 (word name_of)
name_word_fits [] t = tt
name_word_fits ([] ∷ words) t = tt
name_word_fits ((b ∷ bytes) ∷ words) t = (first_word (b ∷ bytes) words t, rest_text (b ∷ bytes) words t)

name_words_fit : Reads NameFits name_words
name_words_fit words t =
    step (Fit (λ scope. IfSome scope SheetFits)) (Fit NameFits) (word scope_of words) _ (word_fits (λ scope. IfSome scope SheetFits) scope_of scope_fits words t)
    (λ scope s. step (Fit IsUtf8) (Fit NameFits) (word name_of scope.1) _ (name_word_fits scope.1 s.1) (λ name n. ((s.0, n.0), n.1)))

update_words_fit : Reads UpdateFits update_words
update_words_fit words t =
    step (Fit NameFits) (Fit UpdateFits) (name_words words) _ (name_words_fit words t)
    (λ old o. step (Fit NameFits) (Fit UpdateFits) (name_words old.1) _ (name_words_fit old.1 o.1) (λ new n. ((o.0, n.0), n.1)))

path_words_fit : Reads PathFits path_words
path_words_fit words t =
    step (Fit AreaFits) (Fit PathFits) (area_words words) _ (area_words_fit words t)
    (λ area a. step (Fit IsUtf8) (Fit PathFits) (word name_of area.1) _ (name_word_fits area.1 a.1) (λ path p. ((a.0, p.0), p.1)))

parts_word_fits : Reads PartsFit (word parts_of)
parts_word_fits words t = word_fits PartsFit parts_of parts_fit words t

-- two whose parts are bytes
abbrev TwoFit : RgbColor × RgbColor → Type 0
TwoFit two = PartsFit two.0 × PartsFit two.1

two_parts_fit : Reads TwoFit two_parts
two_parts_fit words t =
    step (Fit PartsFit) (Fit TwoFit) (word parts_of words) _ (parts_word_fits words t)
    (λ one o. step (Fit PartsFit) (Fit TwoFit) (word parts_of one.1) _ (parts_word_fits one.1 o.1) (λ other p. ((o.0, p.0), p.1)))

theme_words_fit : Reads ThemeFits theme_words
theme_words_fit words t =
    step (Fit TwoFit) (Fit ThemeFits) (two_parts words) _ (two_parts_fit words t)
    (λ first first_fits. step (Fit TwoFit) (Fit ThemeFits) (two_parts first.1) _ (two_parts_fit first.1 first_fits.1)
    (λ second second_fits. step (Fit TwoFit) (Fit ThemeFits) (two_parts second.1) _ (two_parts_fit second.1 second_fits.1)
    (λ third third_fits. step (Fit TwoFit) (Fit ThemeFits) (two_parts third.1) _ (two_parts_fit third.1 third_fits.1)
    (λ fourth fourth_fits. step (Fit TwoFit) (Fit ThemeFits) (two_parts fourth.1) _ (two_parts_fit fourth.1 fourth_fits.1)
    (λ fifth fifth_fits. step (Fit TwoFit) (Fit ThemeFits) (two_parts fifth.1) _ (two_parts_fit fifth.1 fifth_fits.1)
    (λ sixth sixth_fits. (
      record {
        light1 = first_fits.0.0;
        dark1 = first_fits.0.1;
        light2 = second_fits.0.0;
        dark2 = second_fits.0.1;
        accent1 = third_fits.0.0;
        accent2 = third_fits.0.1;
        accent3 = fourth_fits.0.0;
        accent4 = fourth_fits.0.1;
        accent5 = fifth_fits.0.0;
        accent6 = fifth_fits.0.1;
        hyperlink = sixth_fits.0.0;
        followed_hyperlink = sixth_fits.0.1;
      },
      sixth_fits.1,
    )))))))

-- ---- commands

ended_fits : {A : Type 0} (P : A → Type 0) (found : A × List (List ℕ)) → Fit P found → IfSome (ended found) P
ended_fits P (value, []) h = h.0
ended_fits P (value, next ∷ words) h = tt

text_fits : {A : Type 0} (P : A → Type 0) (found : A × List (List ℕ)) → Fit P found → IfSome (with_text found) (λ read. P read.0 × IsUtf8 read.1)
text_fits P (value, words) h =
    mapped IsUtf8 (λ read. P read.0 × IsUtf8 read.1) (unescaped (text_of words)) (λ text. (value, text)) (unescaped-IsUtf8 (text_of words) h.1) (λ text t. (h.0, t))

-- each command of such a value fits
abbrev FitsAll : {A : Type 0} → (A → Type 0) → List ℕ × (A → Command) → Type 0
FitsAll P entry = (found : _) → P found → CommandFits (entry.1 found)

by_table_fits : {A : Type 0} (P : A → Type 0) (table : Table A) → AllByRecursion (FitsAll P) table → (first : List ℕ) (found : A) → P found → IfSome (by_table table first found) CommandFits
by_table_fits P table entries first found f =
    mapped (FitsAll P) CommandFits (find (λ entry. bytes_eq entry.0 first) table) (λ entry. entry.1 found) (found_fits (FitsAll P) (λ entry. bytes_eq entry.0 first) table entries)
    (λ entry h. h found f)

exactly_fits : {A : Type 0} (P : A → Type 0) (read : Reader A) (command : List ℕ → A → Option Command) → Reads P read
    → ((first : List ℕ) (found : A) → P found → IfSome (command first found) CommandFits)
    → (first : List ℕ) (words : List (List ℕ)) → IsUtf8 (text_of words) → IfSome (exactly read command first words) CommandFits
exactly_fits P read command h k first words t =
    step P CommandFits (option_and_then ended (read words)) (command first) (step (Fit P) P (read words) ended (h words t) (ended_fits P)) (k first)

cell_entries_fit : AllByRecursion (FitsAll CellFits) cell_commands
cell_entries_fit = (λ found f. f) ▸ (λ found f. f) ▸ (λ found f. f) ▸ tt

cell_command_fits : (first : List ℕ) (found : _) → CellFits found → IfSome (cell_command first found) CommandFits
unfolding cell_command
cell_command_fits first found f = by_table_fits CellFits cell_commands cell_entries_fit first found f

area_entries_fit : AllByRecursion (FitsAll AreaFits) area_commands
area_entries_fit = (λ found f. f) ▸ (λ found f. f) ▸ (λ found f. f) ▸ (λ found f. f) ▸ tt

area_command_fits : (first : List ℕ) (found : _) → AreaFits found → IfSome (area_command first found) CommandFits
unfolding area_command
area_command_fits first found f = by_table_fits AreaFits area_commands area_entries_fit first found f

fill_entries_fit : AllByRecursion (FitsAll FillFits) fill_commands
fill_entries_fit = (λ found f. f) ▸ (λ found f. f) ▸ tt

fill_command_fits : (first : List ℕ) (found : _) → FillFits found → IfSome (fill_command first found) CommandFits
unfolding fill_command
fill_command_fits first found f = by_table_fits FillFits fill_commands fill_entries_fit first found f

lines_entries_fit : AllByRecursion (FitsAll LinesFit) lines_commands
lines_entries_fit = (λ found f. f) ▸ (λ found f. f) ▸ (λ found f. f) ▸ (λ found f. f) ▸ (λ found f. f) ▸ (λ found f. f) ▸ (λ found f. f) ▸ (λ found f. f) ▸ tt

lines_command_fits : (first : List ℕ) (found : _) → LinesFit found → IfSome (lines_command first found) CommandFits
unfolding lines_command
lines_command_fits first found f = by_table_fits LinesFit lines_commands lines_entries_fit first found f

move_entries_fit : AllByRecursion (FitsAll MoveFits) move_commands
move_entries_fit = (λ found f. f) ▸ (λ found f. f) ▸ (λ found f. f) ▸ (λ found f. f) ▸ tt

move_command_fits : (first : List ℕ) (found : _) → MoveFits found → IfSome (move_command first found) CommandFits
unfolding move_command
move_command_fits first found f = by_table_fits MoveFits move_commands move_entries_fit first found f

count_entries_fit : AllByRecursion (FitsAll CountFits) count_commands
count_entries_fit = (λ found f. f) ▸ (λ found f. f) ▸ tt

count_command_fits : (first : List ℕ) (found : _) → CountFits found → IfSome (count_command first found) CommandFits
unfolding count_command
count_command_fits first found f = by_table_fits CountFits count_commands count_entries_fit first found f

sheet_entries_fit : AllByRecursion (FitsAll SheetFits) sheet_commands
sheet_entries_fit = (λ found f. f) ▸ (λ found f. f) ▸ (λ found f. f) ▸ (λ found f. f) ▸ tt

sheet_command_fits : (first : List ℕ) (found : _) → SheetFits found → IfSome (sheet_command first found) CommandFits
unfolding sheet_command
sheet_command_fits first found f = by_table_fits SheetFits sheet_commands sheet_entries_fit first found f

-- what the words behind a command are read as fits
abbrev Readable : List ℕ × (List (List ℕ) → Option Command) → Type 0
Readable entry = (words : List (List ℕ)) → IsUtf8 (text_of words) → IfSome (entry.1 words) CommandFits

by_reader_fits : (readers : Readers) → AllByRecursion Readable readers → (first : List ℕ) (words : List (List ℕ)) → IsUtf8 (text_of words) → IfSome (by_reader readers first words) CommandFits
by_reader_fits readers entries first words t =
    step Readable CommandFits (find (λ entry. bytes_eq entry.0 first) readers) (λ entry. entry.1 words) (found_fits Readable (λ entry. bytes_eq entry.0 first) readers entries)
    (λ entry r. r words t)

only_fits : {A : Type 0} (P : A → Type 0) (read : Reader A) (command : A → Command) → Reads P read → ((a : A) → P a → CommandFits (command a))
    → (words : List (List ℕ)) → IsUtf8 (text_of words) → IfSome (only read command words) CommandFits
only_fits P read command h k words t =
    mapped P CommandFits (option_and_then ended (read words)) command (step (Fit P) P (read words) ended (h words t) (ended_fits P)) k

and_text_fits : {A : Type 0} (P : A → Type 0) (read : Reader A) (command : A → List ℕ → Command) → Reads P read
    → ((a : A) (text : List ℕ) → P a → IsUtf8 text → CommandFits (command a text))
    → (words : List (List ℕ)) → IsUtf8 (text_of words) → IfSome (and_text read command words) CommandFits
and_text_fits P read command h k words t =
    mapped (λ found. P found.0 × IsUtf8 found.1) CommandFits (option_and_then with_text (read words)) (λ found. command found.0 found.1)
    (step (Fit P) (λ found. P found.0 × IsUtf8 found.1) (read words) with_text (h words t) (text_fits P)) (λ found q. k found.0 found.1 q.0 q.1)

only_text_fits : (command : List ℕ → Command) → ((text : List ℕ) → IsUtf8 text → CommandFits (command text))
    → (words : List (List ℕ)) → IsUtf8 (text_of words) → IfSome (only_text command words) CommandFits
only_text_fits command k words t = mapped IsUtf8 CommandFits (unescaped (text_of words)) command (unescaped-IsUtf8 (text_of words) t) k

alone_fits : (command : Command) → CommandFits command → (words : List (List ℕ)) → IsUtf8 (text_of words) → IfSome (alone command words) CommandFits
alone_fits command h [] t = h
alone_fits command h (next ∷ words) t = tt

single_entries_fit : AllByRecursion Readable single_commands
single_entries_fit =
    alone_fits NewSheet tt
    ▸ alone_fits Undo tt
    ▸ alone_fits Redo tt
    ▸ alone_fits Sync tt
    ▸ alone_fits Show tt
    ▸ only_fits SheetMoveFits sheet_move_words MoveSheet sheet_move_fits (λ move m. m)
    ▸ only_fits RuleFits rule_words RuleDelete rule_words_fit (λ named r. r)
    ▸ only_fits SwapFits swap_words RuleSwap swap_words_fit (λ named s. s)
    ▸ only_fits ColorFits color_words SheetColor color_words_fit (λ named c. c)
    ▸ only_fits GridFits grid_words GridLines grid_fits (λ named g. g)
    ▸ only_fits ThemeFits theme_words ThemeColors theme_words_fit (λ theme p. p)
    ▸ only_fits RunFits run_words Make run_words_fit (λ run p. p)
    ▸ tt

text_entries_fit : AllByRecursion Readable text_commands
text_entries_fit =
    and_text_fits CellFits cell_words Set cell_fits (λ cell text c t. (c, t))
    ▸ and_text_fits CellFits cell_words Link cell_fits (λ cell text c t. (c, t))
    ▸ and_text_fits AreaFits area_words Array area_words_fit (λ area text a t. (a, t))
    ▸ and_text_fits AreaFits area_words Rule area_words_fit (λ area text a t. (a, t))
    ▸ and_text_fits PathFits path_words Style path_words_fit (λ named text n t. (n, t))
    ▸ and_text_fits SheetFits sheet_word RenameSheet sheet_fits (λ sheet text s t. (s, t))
    ▸ and_text_fits NameFits name_words Name name_words_fit (λ name text n t. (n, t))
    ▸ and_text_fits UpdateFits update_words NameUpdate update_words_fit (λ update text u t. (u, t))
    ▸ only_text_fits Title (λ text t. t)
    ▸ tt

word_entries_fit : AllByRecursion Readable word_commands
word_entries_fit =
    only_fits NameFits name_words NameDelete name_words_fit (λ name n. n)
    ▸ only_fits IsUtf8 (word name_of) Locale name_word_fits (λ name n. n)
    ▸ only_fits IsUtf8 (word name_of) Zone name_word_fits (λ name n. n)
    ▸ only_fits IsUtf8 (word name_of) Language name_word_fits (λ name n. n)
    ▸ tt

single_command_fits : (first : List ℕ) (words : List (List ℕ)) → IsUtf8 (text_of words) → IfSome (single_command first words) CommandFits
unfolding single_command
single_command_fits first words t = by_reader_fits single_commands single_entries_fit first words t

text_command_fits : (first : List ℕ) (words : List (List ℕ)) → IsUtf8 (text_of words) → IfSome (text_command first words) CommandFits
unfolding text_command
text_command_fits first words t = by_reader_fits text_commands text_entries_fit first words t

word_command_fits : (first : List ℕ) (words : List (List ℕ)) → IsUtf8 (text_of words) → IfSome (word_command first words) CommandFits
unfolding word_command
word_command_fits first words t = by_reader_fits word_commands word_entries_fit first words t

place_command_fits : (first : List ℕ) (words : List (List ℕ)) → IsUtf8 (text_of words) → IfSome (place_command first words) CommandFits
unfolding place_command
place_command_fits first words t =
    either_fits CommandFits (exactly cell_words cell_command first words) _ (exactly_fits CellFits cell_words cell_command cell_fits cell_command_fits first words t)
    (either_fits CommandFits (exactly area_words area_command first words) _ (exactly_fits AreaFits area_words area_command area_words_fit area_command_fits first words t) (exactly_fits FillFits fill_words fill_command fill_words_fit fill_command_fits first words t))

line_command_fits : (first : List ℕ) (words : List (List ℕ)) → IsUtf8 (text_of words) → IfSome (line_command first words) CommandFits
unfolding line_command
line_command_fits first words t =
    either_fits CommandFits (exactly lines_words lines_command first words) _ (exactly_fits LinesFit lines_words lines_command lines_fit lines_command_fits first words t)
    (either_fits CommandFits (exactly move_words move_command first words) _ (exactly_fits MoveFits move_words move_command move_fits move_command_fits first words t) (exactly_fits CountFits count_words count_command count_fits count_command_fits first words t))

from_words_fit : (words : List (List ℕ)) → IsUtf8 (text_of words) → IfSome (from_words words) CommandFits
from_words_fit [] h = tt
from_words_fit (first ∷ words) h =
    let t = rest_text first words h in
    either_fits CommandFits (text_command first words) _ (text_command_fits first words t)
    (either_fits CommandFits (place_command first words) _ (place_command_fits first words t)
    (either_fits CommandFits (line_command first words) _ (line_command_fits first words t)
    (either_fits CommandFits (exactly sheet_word sheet_command first words) _ (exactly_fits SheetFits sheet_word sheet_command sheet_fits sheet_command_fits first words t)
    (either_fits CommandFits (single_command first words) (word_command first words) (single_command_fits first words t) (word_command_fits first words t)))))

pub command_fits : (line : List ℕ) → IfSome (command_of line) CommandFits
command_fits line = go (is_utf8 line) refl
  where
    go : (t : Bool) → is_utf8 line ≡ t → IfSome (cond t (from_words (parts_at 32 line)) None) CommandFits
    go true e = from_words_fit (parts_at 32 line) (subst IsUtf8 (sym (join_with_byte-slice_split 32 line)) (IsUtf8-from_is_utf8 line e))
    go false e = tt
