-- What is encoded is read again, whatever bytes follow: the law of each part of a format.
use Rattle.std.proofs.Common.{◌≡◌, nat_eq, ℕ, suc, ◌^◌, ◌<◌, ◌≤◌, ltb, Bool, true, false, List, [], ◌∷◌, ◌++◌, length, Option, Some, None, Ok, refl, sym, ap, ◌∙◌, append_assoc, arith}
use Rattle.std.specs.Prelude.{IfSome, FitsSigned}
use Rattle.std.specs.Cmp.Lexicographic.{pointwise}
use Rattle.std.specs.List.{flat_map, AllByRecursion}
use Rattle.std.specs.Int.{Width, w32, w64, w128, byte_len, from_be_bytes, to_be_bytes, cast_unsigned}
use Rattle.std.proofs.lemmas.Bool.{le-ltb}
use Rattle.std.proofs.lemmas.List.{take_at, drop_at, length-append, append-nil}
use Rattle.std.proofs.lemmas.Nat.{from_be_bytes-to_be_bytes_4, from_be_bytes-to_be_bytes_8}
use Rattle.std.proofs.lemmas.Int.{to_z-of_z}
use Rattle.std.proofs.lemmas.Str.{is_utf8-from_IsUtf8}
use mir.Val.{bits}
use Rattle.std.proofs.Math.Facts.{Fits-of_z}
use Rattle.base_wire.specs.laws.Sixteen.{from_be_bytes-to_be_bytes_16}
use Rattle.base_wire.specs.laws.Reading.{Reader, after, whole, map_at, ◌⊗◌, check_at, byte_at, decoded, coded_at, code_at, number_at, signed_at, text_at, option_at, many_at, list_at}
use Rattle.base_wire.specs.Encoding.{encode_signed, encode_code, encode_text, encode_option, encode_list, encode_both, Any, Both, FitsText, FitsItems}

-- what is encoded is read again
pub record ReadsAgain {A : Type 0} (Fits : A → Type 0) (encode : A → List ℕ) (read : Reader A) : Type 0 where
  pub again : (x : A) (rest : List ℕ) → Fits x → read (encode x ++ rest) ≡ Ok (x, rest)

module _ {A B : Type 0} {F : A → Type 0} {G : B → Type 0} {s : A → List ℕ} {t : B → List ℕ} {r : Reader A} {q : Reader B} where
  pub both_again : ReadsAgain F s r → ReadsAgain G t q → ReadsAgain (Both F G) (encode_both s t) (r ⊗ q)
  both_again first second = record {
    again = λ x rest fits.
        ap (r ⊗ q) (append_assoc (s x.0) (t x.1) rest) ∙ rw (first.again x.0 (t x.1 ++ rest) fits.0, second.again x.1 rest fits.1) refl;
  }

-- a value that is made of what is read
pub map_again : {A B : Type 0} {F : A → Type 0} {s : A → List ℕ} {r : Reader A} → ReadsAgain F s r → (f : A → B) (g : B → A) → ((y : B) → f (g y) ≡ y) → ReadsAgain (λ y. F (g y)) (λ y. s (g y)) (map_at f r)
map_again {r} law f g inverse = record {
  again = λ y rest fits. rw (law.again (g y) rest fits) (ap (λ x. Ok (x, rest)) (inverse y));
}

pub check_again : {A : Type 0} {F : A → Type 0} {s : A → List ℕ} {r : Reader A} → ReadsAgain F s r → (test : A → Bool) → ReadsAgain (λ x. F x × (test x ≡ true)) s (check_at test r)
check_again law test = record {
  again = λ x rest fits. rw (law.again x rest fits.0, fits.1) refl;
}

pub byte_again : ReadsAgain (λ b. b < 2 ^ 8) (λ b. b ∷ []) byte_at
byte_again = record { again = λ b rest fits. refl }

pub coded_again : {A : Type 0} (code_of : A → ℕ) (value_of : ℕ → Option A) → ((x : A) → value_of (code_of x) ≡ Some x) → ReadsAgain Any (encode_code code_of) (coded_at value_of)
coded_again code_of value_of known = record { again = λ x rest fits. rw (known x) refl }

pub code_again : {A : Type 0} (code_of : A → ℕ) (values : List A) → ((x : A) → decoded code_of values (code_of x) ≡ Some x) → ReadsAgain Any (encode_code code_of) (code_at code_of values)
code_again code_of values = coded_again code_of (decoded code_of values)

-- ---- numbers

pub record IsWide (w : Width) : Type 0 where
  pub len : (n : ℕ) → length (to_be_bytes w n) ≡ byte_len w
  pub again : (n : ℕ) → n < 2 ^ bits w → from_be_bytes w (to_be_bytes w n) ≡ n

pub wide32 : IsWide w32
wide32 = record { len = λ n. refl; again = λ n lt. from_be_bytes-to_be_bytes_4 n lt }

pub wide64 : IsWide w64
wide64 = record { len = λ n. refl; again = λ n lt. from_be_bytes-to_be_bytes_8 n lt }

pub wide128 : IsWide w128
wide128 = record { len = λ n. refl; again = λ n lt. from_be_bytes-to_be_bytes_16 n lt }

pub number_again : {w : Width} → IsWide w → ReadsAgain (λ n. n < 2 ^ bits w) (to_be_bytes w) (number_at w)
number_again {w} wide = record {
  again = λ n rest lt.
      let len = wide.len n in
      let long : ltb (length (to_be_bytes w n ++ rest)) (byte_len w) ≡ false = le-ltb _ _ (omega (arith, length-append (to_be_bytes w n) rest)) in
      rw (long, take_at (to_be_bytes w n) rest (byte_len w) len, drop_at (to_be_bytes w n) rest (byte_len w) len, wide.again n lt) refl;
}

pub signed_again : {w : Width} → IsWide w → ReadsAgain (FitsSigned w) (encode_signed w) (signed_at w)
signed_again {w} wide = record {
  again = λ z rest fits. rw ((number_again wide).again (cast_unsigned w z) rest (Fits-of_z fits).fits) (ap (λ x. Ok (x, rest)) (to_z-of_z w z fits));
}

-- ---- texts

pub text_again : ReadsAgain FitsText encode_text text_at
unfolding text_at
text_again = record {
  again = λ text rest fits.
      let long : ltb (length (text ++ rest)) (length text) ≡ false = le-ltb _ _ (omega (arith, length-append text rest)) in
      let valid = is_utf8-from_IsUtf8 text fits.utf8 in
      ap text_at (append_assoc (to_be_bytes w64 (length text)) text rest)
      ∙ rw ((number_again wide64).again (length text) (text ++ rest) fits.short, long, take_at text rest (length text) refl, drop_at text rest (length text) refl, valid) refl;
}

-- ---- options and lists

-- items that take a byte at least are no more than their bytes
items_within : {A : Type 0} (s : A → List ℕ) → ((x : A) → 1 ≤ length (s x)) → (xs : List A) → length xs ≤ length (flat_map s xs)
items_within s some [] = omega arith
items_within s some (x ∷ xs) = omega (arith, some x, items_within s some xs, length-append (s x) (flat_map s xs))

module _ {A : Type 0} {F : A → Type 0} {s : A → List ℕ} {r : Reader A} where
  pub option_again : ReadsAgain F s r → ReadsAgain (λ o. IfSome o F) (encode_option s) (option_at r)
  option_again law = record { again = one }
    where
      one : (o : Option A) (rest : List ℕ) → IfSome o F → option_at r (encode_option s o ++ rest) ≡ Ok (o, rest)
      one None rest fits = refl
      one (Some x) rest fits = rw (law.again x rest fits) refl

  many_again : ReadsAgain F s r → (xs : List A) (rest : List ℕ) → AllByRecursion F xs → many_at r (length xs) (flat_map s xs ++ rest) ≡ Ok (xs, rest)
  unfolding many_at
  many_again law [] rest fits = refl
  many_again law (x ∷ xs) rest fits =
      let parts : flat_map s (x ∷ xs) ++ rest ≡ s x ++ (flat_map s xs ++ rest) = append_assoc (s x) (flat_map s xs) rest in
      ap (many_at r (suc (length xs))) parts ∙ rw (law.again x (flat_map s xs ++ rest) fits.0, many_again law xs rest fits.1) refl

  pub list_again : ReadsAgain F s r → ((x : A) → 1 ≤ length (s x)) → ReadsAgain (FitsItems F) (encode_list s) (list_at r)
  list_again law some = record {
    again = λ xs rest fits.
        let parts : encode_list s xs ++ rest ≡ to_be_bytes w64 (length xs) ++ (flat_map s xs ++ rest) = append_assoc (to_be_bytes w64 (length xs)) (flat_map s xs) rest in
        let long : ltb (length (flat_map s xs ++ rest)) (length xs) ≡ false = le-ltb _ _ (omega (arith, items_within s some xs, length-append (flat_map s xs) rest)) in
        ap (list_at r) parts ∙ rw ((number_again wide64).again (length xs) (flat_map s xs ++ rest) fits.short, long) (many_again law xs rest fits.each);
  }

-- ---- wholes

pub after_again : {A : Type 0} {F : A → Type 0} {s : A → List ℕ} {r : Reader A} → ReadsAgain F s r → (front : List ℕ) → pointwise nat_eq front front ≡ true → ReadsAgain F (λ x. front ++ s x) (after front r)
after_again {s} {r} law front same = record {
  again = λ x rest fits.
      ap (after front r) (append_assoc front (s x) rest)
      ∙ rw (take_at front (s x ++ rest) (length front) refl, drop_at front (s x ++ rest) (length front) refl, same) (law.again x rest fits);
}

pub whole_again : {A : Type 0} {F : A → Type 0} {s : A → List ℕ} {r : Reader A} → ReadsAgain F s r → (x : A) → F x → whole r (s x) ≡ Ok x
whole_again {s} {r} law x fits = ap (whole r) (sym (append-nil (s x))) ∙ rw (law.again x [] fits) refl
