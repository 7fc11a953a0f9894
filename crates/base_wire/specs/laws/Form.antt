-- Parts whose values fit where they pass a test, and how their laws are made from those of their own parts.
use Rattle.std.proofs.Common.{◌≡◌, ℕ, ◌^◌, ◌≤◌, ◌&&◌, ltb, Bool, true, List, [], ◌∷◌, length, Option, Some, None, refl}
use Rattle.std.specs.Prelude.{IfSome}
use Rattle.std.specs.List.{list_all, AllByRecursion}
use Rattle.std.specs.Str.{is_utf8}
use Rattle.std.proofs.lemmas.Bool.{and_parts, and_from, ltb-true, lt-ltb}
use Rattle.std.proofs.lemmas.Str.{is_utf8-from_IsUtf8, IsUtf8-from_is_utf8}
use Rattle.base_decimal.specs.Canonical.{is_canonical}
use Rattle.base_wire.specs.laws.Reading.{Reader, ◌⊗◌, map_at, text_at, option_at, list_at, code_at, decoded, coded_at, decimal_at}
use Rattle.base_wire.specs.Encoding.{encode_code, encode_text, encode_option, encode_list, FitsText, FitsItems}
use Rattle.base_wire.specs.Parts.{encode_decimal}
use Rattle.base_wire.specs.Forms.{if_passes, is_text, is_list}
use Rattle.base_wire.specs.laws.Format.{Format}
use Rattle.base_wire.specs.laws.Again.{ReadsAgain, both_again, map_again, coded_again, text_again, option_again, list_again}
use Rattle.base_wire.specs.Encoding.{encode_both}
use Rattle.base_wire.specs.laws.Encoded.{ReadsEncoded, both_encoded, map_encoded, fits_otherwise, coded_encoded, found_code, text_encoded, option_encoded, list_encoded}
use Rattle.base_wire.specs.laws.Refusals.{IsPlain, both_plain, map_plain, coded_plain, text_plain, option_plain, list_plain}
use Rattle.base_wire.specs.laws.Parts.{decimal_again, decimal_encoded, decimal_plain}

-- a value passes a test
abbrev pub Passes : {A : Type 0} → (A → Bool) → A → Type 0
Passes test x = test x ≡ true

-- the laws of a part whose values fit where they pass a test
abbrev pub Form : {A : Type 0} → (A → Bool) → (A → List ℕ) → Reader A → Type 0
Form test encode read = Format (Passes test) encode read

-- the same of what fits where the test is passed
again_where : {A : Type 0} {F G : A → Type 0} {s : A → List ℕ} {r : Reader A} → ((x : A) → G x → F x) → ReadsAgain F s r → ReadsAgain G s r
again_where change law = record { again = λ x rest fits. law.again x rest (change x fits) }

pub form_of : {A : Type 0} {F : A → Type 0} {test : A → Bool} {s : A → List ℕ} {r : Reader A} → ReadsAgain F s r → ReadsEncoded F s r → IsPlain r → ((x : A) → Passes test x → F x) → ((x : A) → F x → Passes test x) → Form test s r
form_of again encoded plain into out = record { again = again_where into again; encoded = fits_otherwise out encoded; plain = plain }

-- every value of the type
abbrev pub always : {A : Type 0} → A → Bool
always x = true

-- both parts pass
abbrev pub both_pass : {A B : Type 0} → (A → Bool) → (B → Bool) → A × B → Bool
both_pass p q x = p x.0 && q x.1

pub both_form : {A B : Type 0} {p : A → Bool} {q : B → Bool} {s : A → List ℕ} {t : B → List ℕ} {r : Reader A} {n : Reader B} → Form p s r → Form q t n → Form (both_pass p q) (encode_both s t) (r ⊗ n)
both_form {p} {q} one two = form_of (both_again one.again two.again) (both_encoded one.encoded two.encoded) (both_plain one.plain two.plain) (λ x h. and_parts (p x.0) (q x.1) h) (λ x h. and_from (p x.0) (q x.1) h.0 h.1)

-- a value that is made of what is read
pub map_form : {A B : Type 0} {p : A → Bool} {s : A → List ℕ} {r : Reader A} → Form p s r → (f : A → B) (g : B → A) → ((y : B) → f (g y) ≡ y) → ((x : A) → g (f x) ≡ x) → Form (λ y. p (g y)) (λ y. s (g y)) (map_at f r)
map_form form f g back forth = record {
  again = map_again form.again f g back;
  encoded = map_encoded form.encoded f g forth;
  plain = map_plain f form.plain;
}

pub coded_form : {A : Type 0} (code_of : A → ℕ) (value_of : ℕ → Option A) → ((x : A) → value_of (code_of x) ≡ Some x) → ((code : ℕ) (x : A) → value_of code ≡ Some x → code_of x ≡ code) → Form always (encode_code code_of) (coded_at value_of)
coded_form code_of value_of known found = form_of (coded_again code_of value_of known) (coded_encoded code_of value_of found) (coded_plain value_of) (λ x h. tt) (λ x h. refl)

pub code_form : {A : Type 0} (code_of : A → ℕ) (values : List A) → ((x : A) → decoded code_of values (code_of x) ≡ Some x) → Form always (encode_code code_of) (code_at code_of values)
code_form code_of values known = coded_form code_of (decoded code_of values) known (found_code code_of values)

pub decimal_form : Form is_canonical encode_decimal decimal_at
decimal_form = form_of decimal_again decimal_encoded decimal_plain (λ x h. h) (λ x h. h)

text_into : (text : List ℕ) → Passes is_text text → FitsText text
text_into text h =
    let p = and_parts (ltb (length text) (2 ^ 64)) (is_utf8 text) h in
    record { short = ltb-true (length text) (2 ^ 64) p.0; utf8 = IsUtf8-from_is_utf8 text p.1 }

-- a text that fits passes
pub text_passes : (text : List ℕ) → FitsText text → Passes is_text text
text_passes text fits = and_from (ltb (length text) (2 ^ 64)) (is_utf8 text) (lt-ltb (length text) (2 ^ 64) fits.short) (is_utf8-from_IsUtf8 text fits.utf8)

pub text_form : Form is_text encode_text text_at
text_form = form_of text_again text_encoded text_plain text_into text_passes

option_into : {A : Type 0} (test : A → Bool) (o : Option A) → Passes (if_passes test) o → IfSome o (Passes test)
option_into test None h = tt
option_into test (Some x) h = h

option_out : {A : Type 0} (test : A → Bool) (o : Option A) → IfSome o (Passes test) → Passes (if_passes test) o
option_out test None h = refl
option_out test (Some x) h = h

pub option_form : {A : Type 0} {p : A → Bool} {s : A → List ℕ} {r : Reader A} → Form p s r → Form (if_passes p) (encode_option s) (option_at r)
option_form {p} form = form_of (option_again form.again) (option_encoded form.encoded) (option_plain form.plain) (option_into p) (option_out p)

-- each item of a list that passes does
pub each_passes : {A : Type 0} (test : A → Bool) (xs : List A) → list_all test xs ≡ true → AllByRecursion (Passes test) xs
each_passes test [] h = tt
each_passes test (x ∷ xs) h = let p = and_parts (test x) (list_all test xs) h in (p.0, each_passes test xs p.1)

all_pass : {A : Type 0} (test : A → Bool) (xs : List A) → AllByRecursion (Passes test) xs → list_all test xs ≡ true
all_pass test [] h = refl
all_pass test (x ∷ xs) h = and_from (test x) (list_all test xs) h.0 (all_pass test xs h.1)

items_into : {A : Type 0} (test : A → Bool) (xs : List A) → Passes (is_list test) xs → FitsItems (Passes test) xs
items_into test xs h =
    let p = and_parts (ltb (length xs) (2 ^ 64)) (list_all test xs) h in
    record { short = ltb-true (length xs) (2 ^ 64) p.0; each = each_passes test xs p.1 }

-- a list that fits passes
pub items_out : {A : Type 0} (test : A → Bool) (xs : List A) → FitsItems (Passes test) xs → Passes (is_list test) xs
items_out test xs fits = and_from (ltb (length xs) (2 ^ 64)) (list_all test xs) (lt-ltb (length xs) (2 ^ 64) fits.short) (all_pass test xs fits.each)

pub list_form : {A : Type 0} {p : A → Bool} {s : A → List ℕ} {r : Reader A} → Form p s r → ((x : A) → 1 ≤ length (s x)) → Form (is_list p) (encode_list s) (list_at r)
list_form {p} form some = form_of (list_again form.again some) (list_encoded form.encoded) (list_plain form.plain) (items_into p) (items_out p)
