-- The only refusal of a reader is ParseDiffs.
use Rattle.std.proofs.Common.{◌≡◌, ℕ, zero, suc, ltb, eqb, Bool, true, false, if◌then◌else◌, nat_eq, List, [], ◌∷◌, length, take, drop, Option, Some, None, Result, Ok, Err, refl}
use Rattle.std.specs.Str.{is_utf8}
use Rattle.std.specs.Cmp.Lexicographic.{pointwise}
use Rattle.std.specs.Int.{Width, w64, byte_len, from_be_bytes, cast_signed}
use Rattle.base_values.specs.declared.EditError.{EditError}
use Rattle.base_values.specs.declared.EditError.TheVariants.{ParseDiffs}
use Rattle.base_values.specs.Answers.{ok_or}
use Rattle.base_wire.specs.laws.Reading.{Reader, ◌>>=◌, refused, plain, map_at, ◌⊗◌, check_at, byte_at, tagged_at, decoded, coded_at, code_at, number_at, signed_at, bytes_at, text_at, option_of, option_at, many_at, count_at, list_at, rest_after, after, whole}

-- what is refused is refused with ParseDiffs
abbrev pub Refuses : {A : Type 0} → Result A EditError → Type 0
Refuses (Ok x) = Unit {0}
Refuses (Err e) = e ≡ ParseDiffs

-- so it is wherever the bytes begin
pub record IsPlain {A : Type 0} (read : Reader A) : Type 0 where
  pub only : (bytes : List ℕ) → Refuses (read bytes)

then_refuses : {A B : Type 0} (r : Result A EditError) (f : A → Result B EditError) → Refuses r → ((x : A) → Refuses (f x)) → Refuses (r >>= f)
then_refuses (Ok x) f one two = two x
then_refuses (Err e) f one two = one

choice_refuses : {A : Type 0} (b : Bool) (x y : Result A EditError) → Refuses x → Refuses y → Refuses (if b then x else y)
choice_refuses true x y one two = one
choice_refuses false x y one two = two

pub both_plain : {A B : Type 0} {r : Reader A} {q : Reader B} → IsPlain r → IsPlain q → IsPlain (r ⊗ q)
both_plain {r} {q} one two = record {
  only = λ bytes.
      then_refuses (r bytes) (λ x. q x.1 >>= λ y. Ok ((x.0, y.0), y.1)) (one.only bytes)
      (λ x. then_refuses (q x.1) (λ y. Ok ((x.0, y.0), y.1)) (two.only x.1) (λ y. tt));
}

pub map_plain : {A B : Type 0} (f : A → B) {r : Reader A} → IsPlain r → IsPlain (map_at f r)
map_plain f {r} law = record { only = λ bytes. then_refuses (r bytes) (λ x. Ok (f x.0, x.1)) (law.only bytes) (λ x. tt) }

pub check_plain : {A : Type 0} (test : A → Bool) {r : Reader A} → IsPlain r → IsPlain (check_at test r)
check_plain test {r} law = record {
  only = λ bytes.
      then_refuses (r bytes) (λ x. if test x.0 then Ok x else Err ParseDiffs) (law.only bytes)
      (λ x. choice_refuses (test x.0) (Ok x) (Err ParseDiffs) tt refl);
}

byte_refuses : (bytes : List ℕ) → Refuses (byte_at bytes)
byte_refuses [] = refl
byte_refuses (b ∷ rest) = tt

pub byte_plain : IsPlain byte_at
byte_plain = record { only = byte_refuses }

some_refuses : {A : Type 0} (o : Option A) → Refuses (ok_or ParseDiffs o)
some_refuses None = refl
some_refuses (Some x) = tt

pub coded_plain : {A : Type 0} (value_of : ℕ → Option A) → IsPlain (coded_at value_of)
coded_plain value_of = record {
  only = λ bytes.
      then_refuses (byte_at bytes) (λ code. ok_or ParseDiffs (value_of code.0) >>= λ value. Ok (value, code.1)) (byte_refuses bytes)
      (λ code. then_refuses (ok_or ParseDiffs (value_of code.0)) (λ value. Ok (value, code.1)) (some_refuses (value_of code.0)) (λ value. tt));
}

pub code_plain : {A : Type 0} (code_of : A → ℕ) (values : List A) → IsPlain (code_at code_of values)
code_plain code_of values = coded_plain (decoded code_of values)

pub number_plain : (w : Width) → IsPlain (number_at w)
number_plain w = record { only = λ bytes. choice_refuses (ltb (length bytes) (byte_len w)) (Err ParseDiffs) (Ok (from_be_bytes w (take (byte_len w) bytes), drop (byte_len w) bytes)) refl tt }

pub signed_plain : (w : Width) → IsPlain (signed_at w)
signed_plain w = map_plain (cast_signed w) (number_plain w)

pub bytes_plain : (n : ℕ) → IsPlain (bytes_at n)
bytes_plain n = record { only = λ bytes. choice_refuses (ltb (length bytes) n) (Err ParseDiffs) (Ok (take n bytes, drop n bytes)) refl tt }

pub text_plain : IsPlain text_at
unfolding text_at
text_plain = record {
  only = λ bytes.
      then_refuses (number_at w64 bytes) (λ n. check_at is_utf8 (bytes_at n.0) n.1) ((number_plain w64).only bytes)
      (λ n. (check_plain is_utf8 (bytes_plain n.0)).only n.1);
}

pub plain_plain : {A : Type 0} (x : A) → IsPlain (plain x)
plain_plain x = record { only = λ bytes. tt }

pub refused_plain : {A : Type 0} → IsPlain {A = A} refused
refused_plain = record { only = λ bytes. refl }

pub if_plain : {A : Type 0} (b : Bool) {read others : Reader A} → IsPlain read → IsPlain others → IsPlain (if b then read else others)
if_plain true one two = one
if_plain false one two = two

pub tagged_plain : {A : Type 0} (reader_of : ℕ → Reader A) → ((tag : ℕ) → IsPlain (reader_of tag)) → IsPlain (tagged_at reader_of)
tagged_plain reader_of each = record {
  only = λ bytes. then_refuses (byte_at bytes) (λ tag. reader_of tag.0 tag.1) (byte_refuses bytes) (λ tag. (each tag.0).only tag.1);
}

pub option_plain : {A : Type 0} {r : Reader A} → IsPlain r → IsPlain (option_at r)
option_plain {r} law = tagged_plain (option_of r) (λ flag. if_plain (eqb flag 0) (plain_plain None) (if_plain (eqb flag 1) (map_plain Some law) refused_plain))

many_refuses : {A : Type 0} {r : Reader A} → IsPlain r → (n : ℕ) (bytes : List ℕ) → Refuses (many_at r n bytes)
unfolding many_at
many_refuses law zero bytes = tt
many_refuses {r} law (suc n) bytes =
    then_refuses (r bytes) (λ first. many_at r n first.1 >>= λ others. Ok (first.0 ∷ others.0, others.1)) (law.only bytes)
    (λ first. then_refuses (many_at r n first.1) (λ others. Ok (first.0 ∷ others.0, others.1)) (many_refuses law n first.1) (λ others. tt))

pub count_plain : IsPlain count_at
count_plain = record {
  only = λ bytes.
      then_refuses (number_at w64 bytes) (λ n. if ltb (length n.1) n.0 then Err ParseDiffs else Ok n) ((number_plain w64).only bytes)
      (λ n. choice_refuses (ltb (length n.1) n.0) (Err ParseDiffs) (Ok n) refl tt);
}

pub list_plain : {A : Type 0} {r : Reader A} → IsPlain r → IsPlain (list_at r)
list_plain {r} law = record {
  only = λ bytes. then_refuses (count_at bytes) (λ n. many_at r n.0 n.1) (count_plain.only bytes) (λ n. many_refuses law n.0 n.1);
}

pub after_plain : {A : Type 0} (front : List ℕ) {r : Reader A} → IsPlain r → IsPlain (after front r)
after_plain front {r} law = record {
  only = λ bytes.
      then_refuses (rest_after front bytes) (λ rest. r rest)
      (choice_refuses (pointwise nat_eq (take (length front) bytes) front) (Ok (drop (length front) bytes)) (Err ParseDiffs) tt refl) (λ rest. law.only rest);
}

pub whole_refuses : {A : Type 0} {r : Reader A} → IsPlain r → (bytes : List ℕ) → Refuses (whole r bytes)
whole_refuses {r} law bytes =
    then_refuses (r bytes) (λ x. if eqb (length x.1) 0 then Ok x.0 else Err ParseDiffs) (law.only bytes)
    (λ x. choice_refuses (eqb (length x.1) 0) (Ok x.0) (Err ParseDiffs) tt refl)
