-- Texts that end with different numbers are different by folding, so a name is equal to one of them at most.
use Rattle.std.proofs.Common.{◌≡◌, ◌≢◌, ℕ, ◌+◌, ◌-◌, ◌^◌, ◌<◌, Bool, true, false, List, [], ◌∷◌, ◌++◌, length, take, drop, refl, sym, ap, ◌∙◌, arith, append_assoc, zero, suc}
use Rattle.std.specs.Prelude.{codes}
use Rattle.std.specs.Fmt.{decimal}
use Rattle.std.specs.List.{AllByRecursion}
use Rattle.std.specs.Str.{chars, IsAscii}
use Rattle.std.proofs.lemmas.Fmt.{decimal_injective, IsAscii-decimal}
use Rattle.std.proofs.lemmas.List.{append_cancel_right, map-append}
use Rattle.std.proofs.lemmas.Str.{chars-IsAscii, IsAscii-append}
use Rattle.ucd_case.specs.CaseFolding.{simple_fold}
use Rattle.base_tables.specs.Folding.{folded, SameFolded, same_folded}
use Rattle.base_tables.specs.laws.Folding.{same_folded_decides}
use Rattle.sheet_naming.specs.FreeNames.{sheet_text, copy_ending, copy_text, free_text, is_taken, new_name, copy_name}
use Rattle.sheet_naming.specs.laws.Characters.{IsDigit, decimal_digits, fold_digits, fold_sign, chars_again}
use Rattle.sheet_naming.specs.laws.LeastFree.{least_is_free}

-- ---- what stands behind the last one of a character

behind_head : (c : ℕ) (ds qs es : List ℕ) → AllByRecursion (λ d. d ≢ c) ds → ds ≢ qs ++ c ∷ es
behind_head c [] [] es none same = absurd (let never : [] ≡ c ∷ es = same in cc)
behind_head c [] (q ∷ qs) es none same = absurd (let never : [] ≡ q ∷ qs ++ c ∷ es = same in cc)
behind_head c (d ∷ ds) [] es none same = none.0 (let is : d ∷ ds ≡ c ∷ es = same in cc)
behind_head c (d ∷ ds) (q ∷ qs) es none same = behind_head c ds qs es none.1 (let is : d ∷ ds ≡ q ∷ qs ++ c ∷ es = same in cc)

-- two texts that are the same are so behind the last one of a character
pub same_behind : (c : ℕ) (ps qs ds es : List ℕ) → AllByRecursion (λ d. d ≢ c) ds → AllByRecursion (λ d. d ≢ c) es → ps ++ c ∷ ds ≡ qs ++ c ∷ es → ds ≡ es
same_behind c [] [] ds es a b same = cc
same_behind c [] (q ∷ qs) ds es a b same = absurd (behind_head c ds qs es a (let rest : ds ≡ qs ++ c ∷ es = cc in rest))
same_behind c (p ∷ ps) [] ds es a b same = absurd (behind_head c es ps ds b (let rest : es ≡ ps ++ c ∷ ds = cc in rest))
same_behind c (p ∷ ps) (q ∷ qs) ds es a b same = same_behind c ps qs ds es a b (let rest : ps ++ c ∷ ds ≡ qs ++ c ∷ es = cc in rest)

-- ---- `Sheet` and a number

ascii_more : (c : ℕ) (cs : List ℕ) → c < 128 → IsAscii cs → IsAscii (c ∷ cs)
ascii_more c cs small all zero = small
ascii_more c cs small all (suc i) = all i

ascii_none : IsAscii []
ascii_none i = omega arith

ascii_sheet : IsAscii (codes "Sheet")
ascii_sheet =
    ascii_more 83 (codes "heet") (omega arith) (ascii_more 104 (codes "eet") (omega arith) (ascii_more 101 (codes "et") (omega arith)
    (ascii_more 101 (codes "t") (omega arith) (ascii_more 116 [] (omega arith) ascii_none))))

-- the characters of such a name
pub sheet_chars : (n : ℕ) → n < 2 ^ 64 → chars (sheet_text n) ≡ sheet_text n
sheet_chars n h = chars-IsAscii (sheet_text n) (IsAscii-append (codes "Sheet") (decimal n) ascii_sheet (IsAscii-decimal n h))

sheet_number : (n : ℕ) → n < 2 ^ 64 → drop 5 (folded (chars (sheet_text n))) ≡ decimal n
sheet_number n h = ap (λ cs. drop 5 (folded cs)) (sheet_chars n h) ∙ fold_digits (decimal n) (decimal_digits n h)

one_sheet : (m n : ℕ) → m < 2 ^ 64 → n < 2 ^ 64 → SameFolded (sheet_text m) (sheet_text n) → m ≡ n
one_sheet m n small less same = decimal_injective m n small less (sym (sheet_number m small) ∙ ap (drop 5) same ∙ sheet_number n less)

-- ---- copies

-- what stands behind its last opening parenthesis
abbrev inside : ℕ → List ℕ
inside n = decimal n ++ 41 ∷ []

pub ending_ascii : (n : ℕ) → n < 2 ^ 64 → IsAscii (copy_ending n)
ending_ascii n h =
    ascii_more 32 (40 ∷ inside n) (omega arith) (ascii_more 40 (inside n) (omega arith)
    (IsAscii-append (decimal n) (codes ")") (IsAscii-decimal n h) (ascii_more 41 [] (omega arith) ascii_none)))

-- the characters of the name of a copy
pub copy_chars : (name : List ℕ) (n : ℕ) → n < 2 ^ 64 → chars (copy_text name n) ≡ take (31 - length (copy_ending n)) (chars name) ++ copy_ending n
copy_chars name n h = chars_again (take (31 - length (copy_ending n)) (chars name)) (copy_ending n) ∙ ap (λ cs. take (31 - length (copy_ending n)) (chars name) ++ cs) (chars-IsAscii (copy_ending n) (ending_ascii n h))

ending_folded : (n : ℕ) → n < 2 ^ 64 → folded (copy_ending n) ≡ 32 ∷ 40 ∷ inside n
ending_folded n h = λ i. fold_sign 32 (omega arith) i ∷ fold_sign 40 (omega arith) i ∷ number i
  where
    number : folded (decimal n ++ 41 ∷ []) ≡ inside n
    number = map-append simple_fold (decimal n) (41 ∷ []) ∙ (λ i. fold_digits (decimal n) (decimal_digits n h) i ++ fold_sign 41 (omega arith) i ∷ [])

copy_folded : (name : List ℕ) (n : ℕ) → n < 2 ^ 64
    → folded (chars (copy_text name n)) ≡ (folded (take (31 - length (copy_ending n)) (chars name)) ++ 32 ∷ []) ++ 40 ∷ inside n
copy_folded name n h =
    let cut = take (31 - length (copy_ending n)) (chars name) in
    ap folded (copy_chars name n h) ∙ map-append simple_fold cut (copy_ending n) ∙ ap (λ cs. folded cut ++ cs) (ending_folded n h)
    ∙ sym (append_assoc (folded cut) (32 ∷ []) (40 ∷ inside n))

none_opening : (ds : List ℕ) → AllByRecursion IsDigit ds → AllByRecursion (λ d. d ≢ 40) (ds ++ 41 ∷ [])
none_opening [] all = ((λ same. absurd (omega (arith, same))), tt)
none_opening (d ∷ ds) all = ((λ same. absurd (omega (arith, same, all.0.0))), none_opening ds all.1)

one_copy : (name : List ℕ) (m n : ℕ) → m < 2 ^ 64 → n < 2 ^ 64 → SameFolded (copy_text name m) (copy_text name n) → m ≡ n
one_copy name m n small less same =
    decimal_injective m n small less (append_cancel_right (decimal m) (decimal n) (41 ∷ []) (same_behind 40 _ _ (inside m) (inside n) (none_opening (decimal m) (decimal_digits m small)) (none_opening (decimal n) (decimal_digits n less))
    (sym (copy_folded name m small) ∙ same ∙ copy_folded name n less)))

-- ---- free names

module _ (text : ℕ → List ℕ) (one : (m n : ℕ) → m < 2 ^ 64 → n < 2 ^ 64 → SameFolded (text m) (text n) → m ≡ n) where
  apart : (m n : ℕ) (name : List ℕ) → m < n → n < 2 ^ 64 → same_folded (text m) name ≡ true → same_folded (text n) name ≡ false
  apart m n name less small hit = go (same_folded (text n) name) refl
    where
      go : (b : Bool) → same_folded (text n) name ≡ b → b ≡ false
      go false is = refl
      go true is =
          let same : m ≡ n = one m n (omega (arith, less, small)) small ((same_folded_decides (text m) name).0 hit ∙ sym ((same_folded_decides (text n) name).0 is)) in
          absurd (omega (arith, same, less))

  -- the text that is found is equal to none of the names
  pub text_is_free : (first : ℕ) (names : List (List ℕ)) → first + length names < 2 ^ 64 → is_taken names (free_text text first names) ≡ false
  text_is_free first names below = least_is_free text (2 ^ 64) apart names first below

pub new_name_is_free : (names : List (List ℕ)) → length names < 2 ^ 63 → is_taken names (new_name names) ≡ false
new_name_is_free names below = text_is_free sheet_text one_sheet 1 names (omega (arith, below))

pub copy_name_is_free : (names : List (List ℕ)) (name : List ℕ) → length names < 2 ^ 63 → is_taken names (copy_name names name) ≡ false
copy_name_is_free names name below = text_is_free (copy_text name) (one_copy name) 2 names (omega (arith, below))
