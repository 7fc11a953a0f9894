-- The characters of texts that end with a number.
use Rattle.std.proofs.Common.{◌≡◌, ℕ, zero, ◌+◌, ◌-◌, ◌*◌, ◌/◌, ◌%◌, ◌^◌, ◌≤◌, ◌<◌, List, [], ◌∷◌, ◌++◌, refl, sym, ap, ◌∙◌, arith, append_assoc, ⊎_elim}
use Rattle.std.specs.Fmt.{decimal}
use Rattle.std.specs.List.{AllByRecursion}
use Rattle.std.specs.Str.{chars, encode_utf8_all, chars_after, continuation_len, lead_bits}
use Rattle.std.specs.Str.Parse.{AllDigits}
use Rattle.std.proofs.Math.Utf8.{encode}
use Rattle.std.proofs.lemmas.Bool.{cases_lt}
use Rattle.std.proofs.lemmas.Fmt.{decimal_is_IsNumeral}
use Rattle.std.proofs.lemmas.Str.Parse.{digit_from_value}
use Rattle.ucd_case.specs.CaseFolding.{simple_fold}
use Rattle.ucd_case.proofs.CaseFoldingLemmas.{simple_fold-ascii}
use Rattle.base_tables.specs.Folding.{folded}

-- ---- digits

abbrev pub IsDigit : ℕ → Type 0
IsDigit c = (48 ≤ c) × (c ≤ 57)

are_digits : (ds : List ℕ) → AllDigits 10 ds → AllByRecursion IsDigit ds
are_digits [] d = tt
are_digits (c ∷ cs) d = let one = digit_from_value c d.0 in ((omega (arith, one), omega (arith, one)), are_digits cs d.1)

pub decimal_digits : (n : ℕ) → n < 2 ^ 64 → AllByRecursion IsDigit (decimal n)
decimal_digits n h = are_digits (decimal n) (decimal_is_IsNumeral n h).0.1

-- a character below the letters folds to itself
pub fold_sign : (c : ℕ) → c < 65 → simple_fold c ≡ c
fold_sign c below = simple_fold-ascii c (omega (arith, below)) ∙ grind (arith, below)

-- so digits do
pub fold_digits : (ds : List ℕ) → AllByRecursion IsDigit ds → folded ds ≡ ds
fold_digits [] all = refl
fold_digits (d ∷ ds) all = λ i. fold_sign d (omega (arith, all.0.1)) i ∷ fold_digits ds all.1 i

-- ---- numbers spelled as characters, whether or not they are characters

-- a number follows the first byte that is read
led : (a n v : ℕ) (bs : List ℕ) → n ≡ continuation_len a → v ≡ lead_bits a → chars (a ∷ bs) ≡ chars_after n v bs
unfolding chars
led a n v bs p q = λ i. chars_after (sym p i) (sym q i) bs

whole : (c : ℕ) (bs : List ℕ) → chars_after zero c bs ≡ c ∷ chars bs
unfolding chars
whole c [] = refl
whole c (b ∷ bs) = refl

-- where it is spelled with one, two, three and four bytes
one : (c : ℕ) → c < 128 → encode c ≡ c ∷ []
unfolding encode
one c h = grind (arith, h)

two : (c : ℕ) → 128 ≤ c → c < 2048 → encode c ≡ (192 + c / 64) ∷ (128 + c % 64) ∷ []
unfolding encode
two c l h = grind (arith, l, h)

three : (c : ℕ) → 2048 ≤ c → c < 65536 → encode c ≡ (224 + c / 4096) ∷ (128 + c / 64 % 64) ∷ (128 + c % 64) ∷ []
unfolding encode
three c l h = grind (arith, l, h)

four : (c : ℕ) → 65536 ≤ c → encode c ≡ (240 + c / 262144) ∷ (128 + c / 4096 % 64) ∷ (128 + c / 64 % 64) ∷ (128 + c % 64) ∷ []
unfolding encode
four c l = grind (arith, l)

-- the first of them is read again
reads : (c : ℕ) (rest : List ℕ) → chars (encode c ++ rest) ≡ c ∷ chars rest
reads c rest =
    ⊎_elim (λ h. ap (λ p. chars (p ++ rest)) (one c h) ∙ led c zero c rest (grind (arith, h)) (grind (arith, h)) ∙ whole c rest)
    (λ l. ⊎_elim
    (λ h. ap (λ p. chars (p ++ rest)) (two c l h)
    ∙ led (192 + c / 64) 1 (c / 64) ((128 + c % 64) ∷ rest) (grind (arith, l, h)) (grind (arith, l, h))
    ∙ whole (c / 64 * 64 + (128 + c % 64 - 128)) rest ∙ ap (λ x. x ∷ chars rest) (omega arith))
    (λ m. ⊎_elim
    (λ h. ap (λ p. chars (p ++ rest)) (three c m h)
    ∙ led (224 + c / 4096) 2 (c / 4096) ((128 + c / 64 % 64) ∷ (128 + c % 64) ∷ rest) (grind (arith, m, h)) (grind (arith, m, h))
    ∙ whole ((c / 4096 * 64 + (128 + c / 64 % 64 - 128)) * 64 + (128 + c % 64 - 128)) rest ∙ ap (λ x. x ∷ chars rest) (omega arith))
    (λ n. ap (λ p. chars (p ++ rest)) (four c n)
    ∙ led (240 + c / 262144) 3 (c / 262144) ((128 + c / 4096 % 64) ∷ (128 + c / 64 % 64) ∷ (128 + c % 64) ∷ rest) (grind (arith, n)) (grind (arith, n))
    ∙ whole (((c / 262144 * 64 + (128 + c / 4096 % 64 - 128)) * 64 + (128 + c / 64 % 64 - 128)) * 64 + (128 + c % 64 - 128)) rest
    ∙ ap (λ x. x ∷ chars rest) (omega arith))
    (cases_lt c 65536)) (cases_lt c 2048)) (cases_lt c 128)

pub chars_again : (cs rest : List ℕ) → chars (encode_utf8_all cs ++ rest) ≡ cs ++ chars rest
chars_again [] rest = refl
chars_again (c ∷ cs) rest =
    ap chars (append_assoc (encode c) (encode_utf8_all cs) rest) ∙ reads c (encode_utf8_all cs ++ rest) ∙ ap (λ xs. c ∷ xs) (chars_again cs rest)
