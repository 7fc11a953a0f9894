-- What is read was encoded so, up to the bytes that are left: the law of each part of a format.
use Rattle.std.proofs.Common.{◌≡◌, ℕ, zero, suc, ℤ, ◌+◌, ◌^◌, ◌<◌, ◌≤◌, ltb, eqb, Bool, true, false, cond, if◌then◌else◌, nat_eq, List, [], ◌∷◌, ◌++◌, length, get_or, take, drop, Option, Some, None, Result, Ok, Err, refl, sym, ap, subst, ◌∙◌, append_assoc, arith, inl, inr}
use Rattle.std.specs.Prelude.{IfSome, FitsSigned, ◌==◌}
use Rattle.std.specs.Str.{is_utf8}
use Rattle.std.specs.Cmp.Lexicographic.{pointwise, bytes_decides}
use Rattle.std.specs.List.{flat_map, AllByRecursion}
use Rattle.std.specs.Int.{Width, w32, w64, w128, byte_len, from_be_bytes, to_be_bytes, cast_signed}
use Rattle.std.proofs.lemmas.Bool.{cases_lt, ltb-false, eqb-true}
use Rattle.std.proofs.lemmas.List.{append-nil, nil_from_length, take-append-drop, length-take, get_or-drop, get_or-take, get_or_past}
use Rattle.std.proofs.lemmas.Nat.{be_bytes_4, be_bytes_8}
use Rattle.std.proofs.lemmas.Int.{of_z-to_z}
use Rattle.std.proofs.lemmas.Str.{IsUtf8-from_is_utf8}
use Rattle.std.proofs.Math.Facts.{sfits_to_z}
use mir.Val.{bits}
use Rattle.base_values.specs.declared.EditError.{EditError}
use Rattle.base_values.specs.declared.EditError.TheVariants.{ParseDiffs}
use Rattle.base_values.specs.Answers.{ok_or}
use Rattle.base_wire.specs.laws.Sixteen.{be_bytes_16, be_bytes_16_below}
use Rattle.base_wire.specs.laws.Reading.{Reader, ◌>>=◌, refused, plain, map_at, ◌⊗◌, check_at, byte_at, tagged_at, decoded, coded_at, code_at, number_at, signed_at, bytes_at, text_at, option_of, option_at, many_at, count_at, list_at, rest_after, after, whole}
use Rattle.base_wire.specs.Encoding.{encode_signed, encode_code, encode_text, encode_option, encode_list, FitsText, FitsItems}
use Rattle.base_wire.specs.Encoding.{Any, Both, encode_both}

-- each is a byte
abbrev pub IsBytes : List ℕ → Type 0
IsBytes bytes = (i : ℕ) → get_or bytes i 0 < 256

IsBytes-drop : (n : ℕ) (bytes : List ℕ) → IsBytes bytes → IsBytes (drop n bytes)
IsBytes-drop n bytes h i = rw get_or-drop (h (n + i))

IsBytes-take : (n : ℕ) (bytes : List ℕ) → IsBytes bytes → IsBytes (take n bytes)
IsBytes-take n bytes h i =
    elim (cases_lt i n) [
      | inl lt ↦ rw (get_or-take n bytes i 0 lt) (h i)
      | inr le ↦ rw (get_or_past (take n bytes) i 0 (omega (arith, length-take n bytes))) (omega arith)
    ]

-- the bytes are the encoding of a value that fits, and what is left
pub record IsEncoded {A : Type 0} (Fits : A → Type 0) (encode : A → List ℕ) (bytes : List ℕ) (x : A) (rest : List ℕ) : Type 0 where
  pub parts : bytes ≡ encode x ++ rest
  pub fits : Fits x
  pub left : IsBytes rest

-- what is read was encoded so
pub record ReadsEncoded {A : Type 0} (Fits : A → Type 0) (encode : A → List ℕ) (read : Reader A) : Type 0 where
  pub encoded : (bytes : List ℕ) (x : A × List ℕ) → IsBytes bytes → read bytes ≡ Ok x → IsEncoded Fits encode bytes x.0 x.1

-- ---- steps

-- the value of a step that was not refused
pub bind_ok : {A B : Type 0} (r : Result A EditError) (f : A → Result B EditError) (y : B) → (r >>= f) ≡ Ok y → (x : A) × (r ≡ Ok x) × (f x ≡ Ok y)
bind_ok (Ok x) f y e = (x, refl, e)
bind_ok (Err d) f y e = absurd cc

abbrev done : {A : Type 0} → A → Result A EditError
done x = Ok x

pub ok_is : {A : Type 0} (x y : A) → done x ≡ done y → x ≡ y
ok_is x y e = cc

-- a test that was passed
pub passed : {A : Type 0} (b : Bool) (x y : A) → (if b then done x else Err ParseDiffs) ≡ Ok y → (b ≡ true) × (x ≡ y)
passed true x y e = (refl, cc)
passed false x y e = absurd cc

-- a test that was not failed
pub unfailed : {A : Type 0} (b : Bool) (x y : A) → (if b then Err ParseDiffs else done x) ≡ Ok y → (b ≡ false) × (x ≡ y)
unfailed true x y e = absurd cc
unfailed false x y e = (refl, cc)

module _ {A B : Type 0} {F : A → Type 0} {G : B → Type 0} {s : A → List ℕ} {t : B → List ℕ} {r : Reader A} {q : Reader B} where
  pub both_encoded : ReadsEncoded F s r → ReadsEncoded G t q → ReadsEncoded (Both F G) (encode_both s t) (r ⊗ q)
  both_encoded first second = record {
    encoded = λ bytes x small e.
        let a = bind_ok (r bytes) (λ y. q y.1 >>= λ z. Ok ((y.0, z.0), z.1)) x e in
        let b = bind_ok (q a.0.1) (λ z. Ok ((a.0.0, z.0), z.1)) x a.2 in
        let one = first.encoded bytes a.0 small a.1 in
        let two = second.encoded a.0.1 b.0 one.left b.1 in
        let output : (A × B) × List ℕ = ((a.0.0, b.0.0), b.0.1) in
        subst (λ (z : (A × B) × List ℕ). IsEncoded (Both F G) (encode_both s t) bytes z.0 z.1) (ok_is output x b.2)
        (record {
          parts = one.parts ∙ ap (λ (w : List ℕ). s a.0.0 ++ w) two.parts ∙ sym (append_assoc (s a.0.0) (t b.0.0) b.0.1);
          fits = (one.fits, two.fits);
          left = two.left;
        });
  }

module _ {A B : Type 0} {F : A → Type 0} {s : A → List ℕ} {r : Reader A} where
  -- a value that is made of what is read
  pub map_encoded : ReadsEncoded F s r → (f : A → B) (g : B → A) → ((x : A) → g (f x) ≡ x) → ReadsEncoded (λ y. F (g y)) (λ y. s (g y)) (map_at f r)
  map_encoded law f g inverse = record {
    encoded = λ bytes x small e.
        let a = bind_ok (r bytes) (λ y. Ok (f y.0, y.1)) x e in
        let one = law.encoded bytes a.0 small a.1 in
        let output : B × List ℕ = (f a.0.0, a.0.1) in
        subst (λ (z : B × List ℕ). IsEncoded (λ y. F (g y)) (λ y. s (g y)) bytes z.0 z.1) (ok_is output x a.2)
        (record {
          parts = one.parts ∙ ap (λ (v : A). s v ++ a.0.1) (sym (inverse a.0.0));
          fits = subst F (sym (inverse a.0.0)) one.fits;
          left = one.left;
        });
  }

-- what fits in one way fits in another
pub fits_otherwise : {A : Type 0} {F G : A → Type 0} {s : A → List ℕ} {r : Reader A} → ((x : A) → F x → G x) → ReadsEncoded F s r → ReadsEncoded G s r
fits_otherwise change law = record {
  encoded = λ bytes x small e. let one = law.encoded bytes x small e in record { parts = one.parts; fits = change x.0 one.fits; left = one.left };
}

pub check_encoded : {A : Type 0} {F : A → Type 0} {s : A → List ℕ} {r : Reader A} → ReadsEncoded F s r → (test : A → Bool) → ReadsEncoded (λ x. F x × (test x ≡ true)) s (check_at test r)
check_encoded {A} {F} {s} {r} law test = record {
  encoded = λ bytes x small e.
      let a = bind_ok (r bytes) (λ y. if test y.0 then Ok y else Err ParseDiffs) x e in
      let p = passed (test a.0.0) a.0 x a.2 in
      let one = law.encoded bytes a.0 small a.1 in
      subst (λ (z : A × List ℕ). IsEncoded (λ x. F x × (test x ≡ true)) s bytes z.0 z.1) p.1
      (record { parts = one.parts; fits = (one.fits, p.0); left = one.left });
}

-- ---- bytes and tags

some_byte : (bytes : List ℕ) (x : ℕ × List ℕ) → byte_at bytes ≡ Ok x → bytes ≡ x.0 ∷ x.1
some_byte [] x e = absurd cc
some_byte (b ∷ rest) x e = ap (λ (z : ℕ × List ℕ). z.0 ∷ z.1) (ok_is (b, rest) x e)

tail_bytes : (b : ℕ) (rest bytes : List ℕ) → bytes ≡ b ∷ rest → IsBytes bytes → IsBytes rest
tail_bytes b rest bytes e small i = subst IsBytes e small (suc i)

pub byte_encoded : ReadsEncoded (λ b. b < 2 ^ 8) (λ b. b ∷ []) byte_at
byte_encoded = record {
  encoded = λ bytes x small e.
      let parts = some_byte bytes x e in
      record { parts = parts; fits = subst IsBytes parts small 0; left = tail_bytes x.0 x.1 bytes parts small };
}

-- the value that is found has the code
pub found_code : {A : Type 0} (code_of : A → ℕ) (values : List A) (code : ℕ) (x : A) → decoded code_of values code ≡ Some x → code_of x ≡ code
found_code code_of [] code x e = absurd cc
found_code {A} code_of (y ∷ values) code x e = by_test (eqb (code_of y) code) refl e (found_code code_of values code x)
  where
    by_test : (b : Bool) → eqb (code_of y) code ≡ b → cond b (Some y) (decoded code_of values code) ≡ Some x → (decoded code_of values code ≡ Some x → code_of x ≡ code) → code_of x ≡ code
    by_test true same h others = let is : y ≡ x = cc in ap code_of (sym is) ∙ eqb-true (code_of y) code same
    by_test false same h others = others h

some_value : {A : Type 0} (o : Option A) (x : A) → ok_or ParseDiffs o ≡ Ok x → o ≡ Some x
some_value None x e = absurd cc
some_value (Some y) x e = ap Some (ok_is y x e)

pub coded_encoded : {A : Type 0} (code_of : A → ℕ) (value_of : ℕ → Option A) → ((code : ℕ) (x : A) → value_of code ≡ Some x → code_of x ≡ code) → ReadsEncoded Any (encode_code code_of) (coded_at value_of)
coded_encoded {A} code_of value_of found = record {
  encoded = λ bytes x small e.
      let a = bind_ok (byte_at bytes) (λ code. ok_or ParseDiffs (value_of code.0) >>= λ value. Ok (value, code.1)) x e in
      let b = bind_ok (ok_or ParseDiffs (value_of a.0.0)) (λ value. Ok (value, a.0.1)) x a.2 in
      let code = found a.0.0 b.0 (some_value _ _ b.1) in
      let one = byte_encoded.encoded bytes a.0 small a.1 in
      let output : A × List ℕ = (b.0, a.0.1) in
      subst (λ (z : A × List ℕ). IsEncoded Any (encode_code code_of) bytes z.0 z.1) (ok_is output x b.2)
      (record { parts = one.parts ∙ ap (λ (k : ℕ). k ∷ a.0.1) (sym code); fits = tt; left = one.left });
}

pub code_encoded : {A : Type 0} (code_of : A → ℕ) (values : List A) → ReadsEncoded Any (encode_code code_of) (code_at code_of values)
code_encoded code_of values = coded_encoded code_of (decoded code_of values) (found_code code_of values)

-- what a reader reads after this tag was encoded with it
pub record TagEncoded {A : Type 0} (Fits : A → Type 0) (encode : A → List ℕ) (tag : ℕ) (read : Reader A) : Type 0 where
  pub tagged : (bytes : List ℕ) (x : A × List ℕ) → IsBytes bytes → read bytes ≡ Ok x → IsEncoded Fits encode (tag ∷ bytes) x.0 x.1

pub tag_map : {A B : Type 0} {F : A → Type 0} {s : A → List ℕ} {r : Reader A} → ReadsEncoded F s r → (f : A → B) (Fits : B → Type 0) (encode : B → List ℕ) (tag : ℕ) → ((x : A) → encode (f x) ≡ tag ∷ s x) → ((x : A) → F x → Fits (f x)) → TagEncoded Fits encode tag (map_at f r)
tag_map {A} {B} {F} {s} {r} law f Fits encode tag form fit = record {
  tagged = λ bytes x small e.
      let a = bind_ok (r bytes) (λ y. Ok (f y.0, y.1)) x e in
      let one = law.encoded bytes a.0 small a.1 in
      let output : B × List ℕ = (f a.0.0, a.0.1) in
      subst (λ (z : B × List ℕ). IsEncoded Fits encode (tag ∷ bytes) z.0 z.1) (ok_is output x a.2)
      (record {
        parts = ap (λ (w : List ℕ). tag ∷ w) one.parts ∙ ap (λ (w : List ℕ). w ++ a.0.1) (sym (form a.0.0));
        fits = fit a.0.0 one.fits;
        left = one.left;
      });
}

pub tag_plain : {A : Type 0} (Fits : A → Type 0) (encode : A → List ℕ) (tag : ℕ) (x : A) → encode x ≡ tag ∷ [] → Fits x → TagEncoded Fits encode tag (plain x)
tag_plain {A} Fits encode tag x form fit = record {
  tagged = λ bytes y small e.
      let output : A × List ℕ = (x, bytes) in
      subst (λ (z : A × List ℕ). IsEncoded Fits encode (tag ∷ bytes) z.0 z.1) (ok_is output y e)
      (record { parts = ap (λ (w : List ℕ). w ++ bytes) (sym form); fits = fit; left = small });
}

pub tag_refused : {A : Type 0} (Fits : A → Type 0) (encode : A → List ℕ) (tag : ℕ) → TagEncoded Fits encode tag refused
tag_refused Fits encode tag = record { tagged = λ bytes x small e. absurd cc }

-- one tag more
pub tag_if : {A : Type 0} {Fits : A → Type 0} {encode : A → List ℕ} {read others : Reader A} (tag code : ℕ) → TagEncoded Fits encode code read → TagEncoded Fits encode tag others → TagEncoded Fits encode tag (if tag == code then read else others)
tag_if {A} {Fits} {encode} {read} {others} tag code one rest = by_test (eqb tag code) refl
  where
    by_test : (b : Bool) → eqb tag code ≡ b → TagEncoded Fits encode tag (if b then read else others)
    by_test true same = subst (λ (k : ℕ). TagEncoded Fits encode k read) (sym (eqb-true tag code same)) one
    by_test false same = rest

pub tagged_encoded : {A : Type 0} {Fits : A → Type 0} {encode : A → List ℕ} (reader_of : ℕ → Reader A) → ((tag : ℕ) → TagEncoded Fits encode tag (reader_of tag)) → ReadsEncoded Fits encode (tagged_at reader_of)
tagged_encoded {A} {Fits} {encode} reader_of each = record {
  encoded = λ bytes x small e.
      let a = bind_ok (byte_at bytes) (λ tag. reader_of tag.0 tag.1) x e in
      let one = byte_encoded.encoded bytes a.0 small a.1 in
      subst (λ (w : List ℕ). IsEncoded Fits encode w x.0 x.1) (sym one.parts) ((each a.0.0).tagged a.0.1 x one.left a.2);
}

pub option_encoded : {A : Type 0} {F : A → Type 0} {s : A → List ℕ} {r : Reader A} → ReadsEncoded F s r → ReadsEncoded (λ o. IfSome o F) (encode_option s) (option_at r)
option_encoded {A} {F} {s} {r} law =
    tagged_encoded (option_of r) (λ flag.
    tag_if flag 0 (tag_plain (λ o. IfSome o F) (encode_option s) 0 None refl tt)
    (tag_if flag 1 (tag_map law Some (λ o. IfSome o F) (encode_option s) 1 (λ x. refl) (λ x fits. fits))
    (tag_refused (λ o. IfSome o F) (encode_option s) flag)))

-- ---- numbers and texts

pub record IsReadBack (w : Width) : Type 0 where
  pub back : (bytes : List ℕ) → length bytes ≡ byte_len w → IsBytes bytes → to_be_bytes w (from_be_bytes w bytes) ≡ bytes
  pub below : (bytes : List ℕ) → IsBytes bytes → from_be_bytes w bytes < 2 ^ bits w

pub back32 : IsReadBack w32
back32 = record {
  back = λ bytes len small. be_bytes_4 bytes _ len small refl;
  below = λ bytes small. omega (arith, small 0, small 1, small 2, small 3);
}

pub back64 : IsReadBack w64
back64 = record {
  back = λ bytes len small. be_bytes_8 bytes _ len small refl;
  below = λ bytes small. omega (arith, small 0, small 1, small 2, small 3, small 4, small 5, small 6, small 7);
}

pub back128 : IsReadBack w128
back128 = record { back = be_bytes_16; below = be_bytes_16_below }

pub number_encoded : {w : Width} → IsReadBack w → ReadsEncoded (λ n. n < 2 ^ bits w) (to_be_bytes w) (number_at w)
number_encoded {w} again = record {
  encoded = λ bytes x small e.
      let g = unfailed (ltb (length bytes) (byte_len w)) (from_be_bytes w (take (byte_len w) bytes), drop (byte_len w) bytes) x e in
      let long : byte_len w ≤ length bytes = ltb-false _ _ g.0 in
      let front = again.back (take (byte_len w) bytes) (omega (arith, length-take (byte_len w) bytes)) (IsBytes-take (byte_len w) bytes small) in
      subst (λ (z : ℕ × List ℕ). IsEncoded (λ n. n < 2 ^ bits w) (to_be_bytes w) bytes z.0 z.1) g.1
      (record {
        parts = rw front (sym (take-append-drop (byte_len w) bytes));
        fits = again.below (take (byte_len w) bytes) (IsBytes-take (byte_len w) bytes small);
        left = IsBytes-drop (byte_len w) bytes small;
      });
}

pub signed_encoded : {w : Width} → IsReadBack w → ReadsEncoded (FitsSigned w) (encode_signed w) (signed_at w)
signed_encoded {w} again = record {
  encoded = λ bytes x small e.
      let a = bind_ok (number_at w bytes) (λ n. Ok (cast_signed w n.0, n.1)) x e in
      let one = (number_encoded again).encoded bytes a.0 small a.1 in
      let output : ℤ × List ℕ = (cast_signed w a.0.0, a.0.1) in
      subst (λ (z : ℤ × List ℕ). IsEncoded (FitsSigned w) (encode_signed w) bytes z.0 z.1) (ok_is output x a.2)
      (record {
        parts = one.parts ∙ ap (λ (n : ℕ). to_be_bytes w n ++ a.0.1) (sym (of_z-to_z w a.0.0 one.fits));
        fits = sfits_to_z (record { fits = one.fits });
        left = one.left;
      });
}

bytes_encoded : (n : ℕ) → ReadsEncoded (λ text. length text ≡ n) (λ text. text) (bytes_at n)
bytes_encoded n = record {
  encoded = λ bytes x small e.
      let g = unfailed (ltb (length bytes) n) (take n bytes, drop n bytes) x e in
      let long : n ≤ length bytes = ltb-false _ _ g.0 in
      subst (λ (z : List ℕ × List ℕ). IsEncoded (λ text. length text ≡ n) (λ text. text) bytes z.0 z.1) g.1
      (record { parts = sym (take-append-drop n bytes); fits = omega (arith, length-take n bytes); left = IsBytes-drop n bytes small });
}

pub text_encoded : ReadsEncoded FitsText encode_text text_at
unfolding text_at
text_encoded = record {
  encoded = λ bytes x small e.
      let a = bind_ok (number_at w64 bytes) (λ n. check_at is_utf8 (bytes_at n.0) n.1) x e in
      let one = (number_encoded back64).encoded bytes a.0 small a.1 in
      let two = (check_encoded (bytes_encoded a.0.0) is_utf8).encoded a.0.1 x one.left a.2 in
      record {
        parts =
            one.parts ∙ ap (λ (w : List ℕ). to_be_bytes w64 a.0.0 ++ w) two.parts ∙ sym (append_assoc (to_be_bytes w64 a.0.0) x.0 x.1)
            ∙ ap (λ (n : ℕ). (to_be_bytes w64 n ++ x.0) ++ x.1) (sym two.fits.0);
        fits = record { short = omega (arith, two.fits.0, one.fits); utf8 = IsUtf8-from_is_utf8 x.0 two.fits.1 };
        left = two.left;
      };
}

-- ---- lists

module _ {A : Type 0} {F : A → Type 0} {s : A → List ℕ} {r : Reader A} where
  many_encoded : ReadsEncoded F s r → (n : ℕ) (bytes : List ℕ) (x : List A × List ℕ) → IsBytes bytes → many_at r n bytes ≡ Ok x → IsEncoded (λ xs. (length xs ≡ n) × AllByRecursion F xs) (flat_map s) bytes x.0 x.1
  unfolding many_at
  many_encoded law zero bytes x small e =
      subst (λ (z : List A × List ℕ). IsEncoded (λ xs. (length xs ≡ 0) × AllByRecursion F xs) (flat_map s) bytes z.0 z.1) (ok_is ([], bytes) x e)
      (record { parts = refl; fits = (refl, tt); left = small })
  many_encoded law (suc n) bytes x small e =
      let a = bind_ok (r bytes) (λ first. many_at r n first.1 >>= λ others. Ok (first.0 ∷ others.0, others.1)) x e in
      let b = bind_ok (many_at r n a.0.1) (λ others. Ok (a.0.0 ∷ others.0, others.1)) x a.2 in
      let one = law.encoded bytes a.0 small a.1 in
      let two = many_encoded law n a.0.1 b.0 one.left b.1 in
      let output : List A × List ℕ = (a.0.0 ∷ b.0.0, b.0.1) in
      subst (λ (z : List A × List ℕ). IsEncoded (λ xs. (length xs ≡ suc n) × AllByRecursion F xs) (flat_map s) bytes z.0 z.1) (ok_is output x b.2)
      (record {
        parts = one.parts ∙ ap (λ (w : List ℕ). s a.0.0 ++ w) two.parts ∙ sym (append_assoc (s a.0.0) (flat_map s b.0.0) b.0.1);
        fits = (ap suc two.fits.0, (one.fits, two.fits.1));
        left = two.left;
      })

  pub list_encoded : ReadsEncoded F s r → ReadsEncoded (FitsItems F) (encode_list s) (list_at r)
  list_encoded law = record {
    encoded = λ bytes x small e.
        let a = bind_ok (count_at bytes) (λ n. many_at r n.0 n.1) x e in
        let b = bind_ok (number_at w64 bytes) (λ n. if ltb (length n.1) n.0 then Err ParseDiffs else Ok n) a.0 a.1 in
        let same = (unfailed (ltb (length b.0.1) b.0.0) b.0 a.0 b.2).1 in
        let one = (number_encoded back64).encoded bytes a.0 small (b.1 ∙ ap Ok same) in
        let two = many_encoded law a.0.0 a.0.1 x one.left a.2 in
        record {
          parts =
              one.parts ∙ ap (λ (w : List ℕ). to_be_bytes w64 a.0.0 ++ w) two.parts ∙ sym (append_assoc (to_be_bytes w64 a.0.0) (flat_map s x.0) x.1)
              ∙ ap (λ (n : ℕ). (to_be_bytes w64 n ++ flat_map s x.0) ++ x.1) (sym two.fits.0);
          fits = record { short = omega (arith, two.fits.0, one.fits); each = two.fits.1 };
          left = two.left;
        };
  }

-- ---- wholes

pub after_encoded : {A : Type 0} {F : A → Type 0} {s : A → List ℕ} {r : Reader A} → ReadsEncoded F s r → (front : List ℕ) → ReadsEncoded F (λ x. front ++ s x) (after front r)
after_encoded {A} {F} {s} {r} law front = record {
  encoded = λ bytes x small e.
      let a = bind_ok (rest_after front bytes) (λ rest. r rest) x e in
      let p = passed (pointwise nat_eq (take (length front) bytes) front) (drop (length front) bytes) a.0 a.1 in
      let same = (bytes_decides (take (length front) bytes) front).0 p.0 in
      let left = subst IsBytes p.1 (IsBytes-drop (length front) bytes small) in
      let one = law.encoded a.0 x left a.2 in
      record {
        parts =
            sym (take-append-drop (length front) bytes) ∙ ap (λ (w : List ℕ). w ++ drop (length front) bytes) same
            ∙ ap (λ (w : List ℕ). front ++ w) (p.1 ∙ one.parts) ∙ sym (append_assoc front (s x.0) x.1);
        fits = one.fits;
        left = one.left;
      };
}

pub whole_encoded : {A : Type 0} {F : A → Type 0} {s : A → List ℕ} {r : Reader A} → ReadsEncoded F s r → (bytes : List ℕ) (x : A) → IsBytes bytes → whole r bytes ≡ Ok x → (bytes ≡ s x) × F x
whole_encoded {A} {F} {s} {r} law bytes x small e =
    let a = bind_ok (r bytes) (λ y. if eqb (length y.1) 0 then Ok y.0 else Err ParseDiffs) x e in
    let p = passed (eqb (length a.0.1) 0) a.0.0 x a.2 in
    let one = law.encoded bytes a.0 small a.1 in
    let nothing : a.0.1 ≡ [] = nil_from_length a.0.1 (eqb-true _ _ p.0) in
    subst (λ (y : A). (bytes ≡ s y) × F y) p.1
    (one.parts ∙ ap (λ (w : List ℕ). s a.0.0 ++ w) nothing ∙ append-nil (s a.0.0), one.fits)
