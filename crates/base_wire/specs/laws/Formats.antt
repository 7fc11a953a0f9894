-- The laws of parts that are made of parts.
use Rattle.std.proofs.Common.{◌≡◌, List, ◌++◌, ℕ, Bool, true, Ok, ap, sym, subst, ◌∙◌}
use Rattle.std.specs.Prelude.{nat_eq}
use Rattle.std.specs.Cmp.Lexicographic.{pointwise}
use Rattle.base_wire.specs.laws.Reading.{Reader, map_at, ◌⊗◌, check_at, after}
use Rattle.base_wire.specs.Encoding.{Both, encode_both}
use Rattle.base_wire.specs.laws.Again.{ReadsAgain, both_again, check_again, after_again}
use Rattle.base_wire.specs.laws.Encoded.{ReadsEncoded, IsEncoded, bind_ok, ok_is, both_encoded, check_encoded, after_encoded}
use Rattle.base_wire.specs.laws.Refusals.{both_plain, map_plain, check_plain, after_plain}
use Rattle.base_wire.specs.laws.Format.{Format}

-- one part, and then another
pub both_format : {A B : Type 0} {F : A → Type 0} {G : B → Type 0} {s : A → List ℕ} {t : B → List ℕ} {r : Reader A} {q : Reader B} → Format F s r → Format G t q → Format (Both F G) (encode_both s t) (r ⊗ q)
both_format first second = record {
  again = both_again first.again second.again;
  encoded = both_encoded first.encoded second.encoded;
  plain = both_plain first.plain second.plain;
}

-- a part that follows these bytes
pub after_format : {A : Type 0} {F : A → Type 0} {s : A → List ℕ} {r : Reader A} → Format F s r → (front : List ℕ) → pointwise nat_eq front front ≡ true → Format F (λ x. front ++ s x) (after front r)
after_format law front same = record { again = after_again law.again front same; encoded = after_encoded law.encoded front; plain = after_plain front law.plain }

-- a part that passes a test
pub check_format : {A : Type 0} {F : A → Type 0} {s : A → List ℕ} {r : Reader A} → Format F s r → (test : A → Bool) → Format (λ x. F x × (test x ≡ true)) s (check_at test r)
check_format law test = record { again = check_again law.again test; encoded = check_encoded law.encoded test; plain = check_plain test law.plain }

module _ {A B : Type 0} {F : A → Type 0} {G : B → Type 0} {s : A → List ℕ} {r : Reader A} where
  made_again : ReadsAgain F s r → (f : A → B) (g : B → A) → ((y : B) → G y → (f (g y) ≡ y) × F (g y)) → ReadsAgain G (λ y. s (g y)) (map_at f r)
  made_again law f g output = record {
    again = λ y rest fits. let p = output y fits in rw (law.again (g y) rest p.1) (ap (λ (x : B). Ok (x, rest)) p.0);
  }

  made_encoded : ReadsEncoded F s r → (f : A → B) (g : B → A) → ((x : A) → F x → (g (f x) ≡ x) × G (f x)) → ReadsEncoded G (λ y. s (g y)) (map_at f r)
  made_encoded law f g output = record {
    encoded = λ bytes x small e.
        let a = bind_ok (r bytes) (λ y. Ok (f y.0, y.1)) x e in
        let one = law.encoded bytes a.0 small a.1 in
        let p = output a.0.0 one.fits in
        let value : B × List ℕ = (f a.0.0, a.0.1) in
        subst (λ (z : B × List ℕ). IsEncoded G (λ y. s (g y)) bytes z.0 z.1) (ok_is value x a.2)
        (record { parts = one.parts ∙ ap (λ (v : A). s v ++ a.0.1) (sym p.0); fits = p.1; left = one.left });
  }

  -- values that are made of those of a part and are got back from them, where they fit
  pub made_format : Format F s r → (f : A → B) (g : B → A) → ((y : B) → G y → (f (g y) ≡ y) × F (g y)) → ((x : A) → F x → (g (f x) ≡ x) × G (f x)) → Format G (λ y. s (g y)) (map_at f r)
  made_format law f g there back = record { again = made_again law.again f g there; encoded = made_encoded law.encoded f g back; plain = map_plain f law.plain }
