-- The number of a column's name is the column, and the name of a name's number is the name in capital letters.
use Rattle.std.proofs.Common.{◌≡◌, ℕ, ℤ, pos, negsuc, ◌+◌, ◌*◌, ◌≤◌, ◌<◌, Bool, true, false, cond, Some, None, List, [], ◌∷◌, length, map, refl, ap, subst, ◌∙◌, arith}
use Rattle.std.proofs.lemmas.Bool.Decides.{nat_tests}
use Rattle.std.specs.Prelude.{nat_le}
use Rattle.std.specs.List.{list_all}
use Rattle.std.specs.Char.{to_ascii_uppercase}
use Rattle.base_values.specs.Places.{is_line}
use Rattle.base_tables.specs.laws.Tables.{both, both_parts}
use Rattle.base_tables.specs.Column.{is_between, is_letter, letter_value, letter_of, letters_number, last_value, number_before, column_letters, column_name, is_column_name, column_of_name}

-- a letter is 1 to 26
pub value_bounds : (c : ℕ) → is_letter c ≡ true → (1 ≤ letter_value c) × (letter_value c ≤ 26)
value_bounds c e = (grind (arith, nat_tests), grind (arith, nat_tests))

letter_again : (c : ℕ) → is_letter c ≡ true → letter_of (letter_value c) ≡ to_ascii_uppercase c
letter_again c e = grind (arith, nat_tests)

value_again : (v : ℕ) → 1 ≤ v → v ≤ 26 → letter_value (letter_of v) ≡ v
value_again v low high = grind (arith, nat_tests)

is_letter_of : (v : ℕ) → 1 ≤ v → v ≤ 26 → is_letter (letter_of v) ≡ true
is_letter_of v low high = grind (arith, nat_tests)

-- ---- the number of a name

one_letter : (n : ℕ) → 1 ≤ n → n ≤ 26 → letters_number (letter_of n ∷ []) ≡ n
one_letter n low high = let only = value_again n low high in omega (arith, only)

two_letters : (n : ℕ) → 26 < n → n ≤ 702 → letters_number (letter_of (number_before n) ∷ letter_of (last_value n) ∷ []) ≡ n
two_letters n low high =
    let first = value_again (number_before n) (omega arith) (omega arith) in
    let second = value_again (last_value n) (omega arith) (omega arith) in
    omega (arith, first, second)

three_letters : (n : ℕ) → 702 < n → n ≤ 16384 → letters_number (letter_of (number_before (number_before n)) ∷ letter_of (last_value (number_before n)) ∷ letter_of (last_value n) ∷ []) ≡ n
three_letters n low high =
    let first = value_again (number_before (number_before n)) (omega arith) (omega arith) in
    let second = value_again (last_value (number_before n)) (omega arith) (omega arith) in
    let third = value_again (last_value n) (omega arith) (omega arith) in
    omega (arith, first, second, third)

abbrev Names : ℕ → List ℕ → Type 0
Names n text = (is_column_name text ≡ true) × (letters_number text ≡ n)

is_name : (text : List ℕ) (n : ℕ) → list_all is_letter text ≡ true → is_between 1 3 (length text) ≡ true → letters_number text ≡ n → n ≤ 16384 → Names n text
unfolding is_column_name
is_name text n letters count number high =
    let inside : nat_le (letters_number text) 16384 ≡ true = grind (arith, nat_tests) in
    (both _ _ letters (both _ _ count inside), number)

abbrev two_letters_of : ℕ → List ℕ
two_letters_of n = letter_of (number_before n) ∷ letter_of (last_value n) ∷ []

abbrev three_letters_of : ℕ → List ℕ
three_letters_of n = letter_of (number_before (number_before n)) ∷ letter_of (last_value (number_before n)) ∷ letter_of (last_value n) ∷ []

letters_name : (n : ℕ) → 1 ≤ n → n ≤ 16384 → (one two : Bool) → nat_le n 26 ≡ one → nat_le n 702 ≡ two → Names n (cond one (letter_of n ∷ []) (cond two (two_letters_of n) (three_letters_of n)))
letters_name n low high true two e f =
    let small : n ≤ 26 = grind (arith, nat_tests) in
    is_name (letter_of n ∷ []) n (both _ _ (is_letter_of n low small) refl) refl (one_letter n low small) high
letters_name n low high false true e f =
    let above : 26 < n = grind (arith, nat_tests) in
    let small : n ≤ 702 = grind (arith, nat_tests) in
    is_name (two_letters_of n) n (both _ _ (is_letter_of (number_before n) (omega arith) (omega arith)) (both _ _ (is_letter_of (last_value n) (omega arith) (omega arith)) refl)) refl (two_letters n above small) high
letters_name n low high false false e f =
    let above : 702 < n = grind (arith, nat_tests) in
    is_name (three_letters_of n) n
    (both _ _ (is_letter_of (number_before (number_before n)) (omega arith) (omega arith))
    (both _ _ (is_letter_of (last_value (number_before n)) (omega arith) (omega arith)) (both _ _ (is_letter_of (last_value n) (omega arith) (omega arith)) refl)))
    refl (three_letters n above high) high

read_name : (n : ℕ) (text : List ℕ) → Names n text → column_of_name text ≡ Some (pos n)
unfolding column_of_name
read_name n text names = rw names.0 (ap (λ (k : ℕ). Some (pos k)) names.1)

letters_of_column : (n : ℕ) → 1 ≤ n → n ≤ 16384 → Names n (column_letters n)
unfolding column_letters
letters_of_column n low high = letters_name n low high (nat_le n 26) (nat_le n 702) refl refl

-- the letters of a column name it
pub letters_name_column : (n : ℕ) → 1 ≤ n → n ≤ 16384 → column_of_name (column_letters n) ≡ Some (pos n)
letters_name_column n low high = read_name n (column_letters n) (letters_of_column n low high)

-- one to three letters with this number
pub record AreLetters (n : ℕ) (text : List ℕ) : Type 0 where
  all : list_all is_letter text ≡ true
  few : is_between 1 3 (length text) ≡ true
  number : letters_number text ≡ n

parts_of_name : (n : ℕ) (text : List ℕ) → Names n text → AreLetters n text
unfolding is_column_name
parts_of_name n text names =
    let parts = both_parts _ _ names.0 in
    let counted = both_parts _ _ parts.1 in
    record { all = parts.0; few = counted.0; number = names.1 }

-- the letters of a column are one to three, and its number is theirs
pub column_letters_are : (n : ℕ) → 1 ≤ n → n ≤ 16384 → AreLetters n (column_letters n)
column_letters_are n low high = parts_of_name n (column_letters n) (letters_of_column n low high)

-- ---- the name of a number

one_again : (a : ℕ) → a ≤ 26 → column_letters a ≡ letter_of a ∷ []
unfolding column_letters
one_again a high = let e : nat_le a 26 ≡ true = grind (arith, nat_tests) in rw e

two_again : (a b : ℕ) → 1 ≤ a → a ≤ 26 → 1 ≤ b → b ≤ 26 → column_letters (a * 26 + b) ≡ letter_of a ∷ letter_of b ∷ []
unfolding column_letters
two_again a b a_low a_high b_low b_high =
    let e : nat_le (a * 26 + b) 26 ≡ false = grind (arith, nat_tests) in
    let f : nat_le (a * 26 + b) 702 ≡ true = grind (arith, nat_tests) in
    let before : number_before (a * 26 + b) ≡ a = omega arith in
    let last : last_value (a * 26 + b) ≡ b = omega arith in
    rw (e, f) (λ i. letter_of (before i) ∷ letter_of (last i) ∷ [])

three_again : (a b c : ℕ) → 1 ≤ a → a ≤ 26 → 1 ≤ b → b ≤ 26 → 1 ≤ c → c ≤ 26 → column_letters ((a * 26 + b) * 26 + c) ≡ letter_of a ∷ letter_of b ∷ letter_of c ∷ []
unfolding column_letters
three_again a b c a_low a_high b_low b_high c_low c_high =
    let e : nat_le ((a * 26 + b) * 26 + c) 26 ≡ false = grind (arith, nat_tests) in
    let f : nat_le ((a * 26 + b) * 26 + c) 702 ≡ false = grind (arith, nat_tests) in
    let before : number_before ((a * 26 + b) * 26 + c) ≡ a * 26 + b = omega arith in
    let last : last_value ((a * 26 + b) * 26 + c) ≡ c = omega arith in
    let first : number_before (a * 26 + b) ≡ a = omega arith in
    let second : last_value (a * 26 + b) ≡ b = omega arith in
    rw (e, f) (λ i. letter_of ((ap number_before before ∙ first) i) ∷ letter_of ((ap last_value before ∙ second) i) ∷ letter_of (last i) ∷ [])

in_capitals : (text : List ℕ) → list_all is_letter text ≡ true → is_between 1 3 (length text) ≡ true → column_letters (letters_number text) ≡ map to_ascii_uppercase text
in_capitals [] letters count = absurd cc
in_capitals (a ∷ []) letters count =
    let is_a = (both_parts _ _ letters).0 in
    let number : letters_number (a ∷ []) ≡ letter_value a = omega arith in
    ap column_letters number ∙ one_again (letter_value a) (value_bounds a is_a).1 ∙ ap (λ (x : ℕ). x ∷ []) (letter_again a is_a)
in_capitals (a ∷ b ∷ []) letters count =
    let is_a = both_parts _ _ letters in
    let is_b = (both_parts _ _ is_a.1).0 in
    let a_bounds = value_bounds a is_a.0 in
    let b_bounds = value_bounds b is_b in
    let number : letters_number (a ∷ b ∷ []) ≡ letter_value a * 26 + letter_value b = omega arith in
    ap column_letters number ∙ two_again (letter_value a) (letter_value b) a_bounds.0 a_bounds.1 b_bounds.0 b_bounds.1 ∙ (λ i. letter_again a is_a.0 i ∷ letter_again b is_b i ∷ [])
in_capitals (a ∷ b ∷ c ∷ []) letters count =
    let is_a = both_parts _ _ letters in
    let is_b = both_parts _ _ is_a.1 in
    let is_c = (both_parts _ _ is_b.1).0 in
    let a_bounds = value_bounds a is_a.0 in
    let b_bounds = value_bounds b is_b.0 in
    let c_bounds = value_bounds c is_c in
    let number : letters_number (a ∷ b ∷ c ∷ []) ≡ (letter_value a * 26 + letter_value b) * 26 + letter_value c = omega arith in
    ap column_letters number ∙ three_again (letter_value a) (letter_value b) (letter_value c) a_bounds.0 a_bounds.1 b_bounds.0 b_bounds.1 c_bounds.0 c_bounds.1
    ∙ (λ i. letter_again a is_a.0 i ∷ letter_again b is_b.0 i ∷ letter_again c is_c i ∷ [])
in_capitals (a ∷ b ∷ c ∷ d ∷ text) letters count = let long : length (a ∷ b ∷ c ∷ d ∷ text) ≤ 3 = grind (arith, nat_tests) in absurd (omega arith)

number_low : (text : List ℕ) → list_all is_letter text ≡ true → is_between 1 3 (length text) ≡ true → 1 ≤ letters_number text
number_low [] letters count = absurd cc
number_low (a ∷ []) letters count = let bounds = value_bounds a (both_parts _ _ letters).0 in omega arith
number_low (a ∷ b ∷ []) letters count = let bounds = value_bounds b (both_parts _ _ (both_parts _ _ letters).1).0 in omega arith
number_low (a ∷ b ∷ c ∷ []) letters count = let bounds = value_bounds c (both_parts _ _ (both_parts _ _ (both_parts _ _ letters).1).1).0 in omega arith
number_low (a ∷ b ∷ c ∷ d ∷ text) letters count = let long : length (a ∷ b ∷ c ∷ d ∷ text) ≤ 3 = grind (arith, nat_tests) in absurd (omega arith)

-- ---- both ways

name_of_number : (n : ℕ) → 1 ≤ n → n ≤ 16384 → column_name (pos n) ≡ Some (column_letters n)
unfolding column_name
name_of_number n low high = let e : is_line (pos 16384) (pos n) ≡ true = grind (arith, nat_tests) in rw e

some_is : {A : Type 0} (p q : A) → Some p ≡ Some q → p ≡ q
some_is p q e = cc

number_high : (n : ℕ) → nat_le n 16384 ≡ true → n ≤ 16384
number_high n e = grind (arith, nat_tests)

by_inside : (text : List ℕ) (b : Bool) (column : ℤ) → is_column_name text ≡ b → cond b (Some (pos (letters_number text))) None ≡ Some column → column_name column ≡ Some (map to_ascii_uppercase text)
unfolding is_column_name
by_inside text true column is e =
    let parts = both_parts _ _ is in
    let counted = both_parts _ _ parts.1 in
    subst (λ (z : ℤ). column_name z ≡ Some (map to_ascii_uppercase text)) (some_is _ _ e)
    (name_of_number (letters_number text) (number_low text parts.0 counted.0) (number_high _ counted.1) ∙ ap (λ (s : List ℕ). Some s) (in_capitals text parts.0 counted.0))
by_inside text false column is e = absurd cc

-- the column that is found has the text as its name, in capital letters
pub found_column : (text : List ℕ) (column : ℤ) → column_of_name text ≡ Some column → column_name column ≡ Some (map to_ascii_uppercase text)
unfolding column_of_name
found_column text column e = by_inside text (is_column_name text) column refl e

by_line : (b : Bool) (n : ℕ) (name : List ℕ) → is_line (pos 16384) (pos n) ≡ b → cond b (Some (column_letters n)) None ≡ Some name → column_of_name name ≡ Some (pos n)
by_line true n name is e =
    let same : column_letters n ≡ name = cc in
    subst (λ (s : List ℕ). column_of_name s ≡ Some (pos n)) same (letters_name_column n (grind (arith, nat_tests)) (grind (arith, nat_tests)))
by_line false n name is e = absurd cc

-- the name that is printed is read as the column
pub printed_column : (column : ℤ) (name : List ℕ) → column_name column ≡ Some name → column_of_name name ≡ Some column
unfolding column_name
printed_column (pos n) name e = by_line (is_line (pos 16384) (pos n)) n name refl e
printed_column (negsuc n) name e = absurd cc
