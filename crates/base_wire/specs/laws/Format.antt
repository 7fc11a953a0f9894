-- The three laws of a part of a format, and what they say of a reader.
use Rattle.std.proofs.Common.{◌≡◌, ◌≢◌, ℕ, ◌≤◌, List, ◌++◌, length, Ok, Err, sym, ap, subst, refl, ◌∙◌}
use Rattle.std.specs.Prelude.{IfOk, IfErr, IfSome}
use Rattle.base_values.specs.Answers.{Answers}
use Rattle.base_values.specs.declared.EditError.{EditError}
use Rattle.base_values.specs.declared.EditError.TheVariants.{NoMemory, ParseDiffs}
use Rattle.base_wire.specs.Reads.{Read, Reads, BeginsWithNone}
use Rattle.base_wire.specs.laws.Reading.{Reader, option_at, list_at}
use Rattle.base_wire.specs.Encoding.{encode_option, encode_list, FitsItems}
use Rattle.base_wire.specs.laws.Again.{ReadsAgain, option_again, list_again}
use Rattle.base_wire.specs.laws.Encoded.{ReadsEncoded, IsEncoded, IsBytes, option_encoded, list_encoded}
use Rattle.base_wire.specs.laws.Refusals.{IsPlain, Refuses, option_plain, list_plain}

-- values that bytes can carry are read again from their encoding, what is read was encoded so, and all else is refused with ParseDiffs
pub record Format {A : Type 0} (Fits : A → Type 0) (encode : A → List ℕ) (read : Reader A) : Type 0 where
  pub again : ReadsAgain Fits encode read
  pub encoded : ReadsEncoded Fits encode read
  pub plain : IsPlain read

pub option_format : {A : Type 0} {F : A → Type 0} {s : A → List ℕ} {r : Reader A} → Format F s r → Format (λ o. IfSome o F) (encode_option s) (option_at r)
option_format law = record { again = option_again law.again; encoded = option_encoded law.encoded; plain = option_plain law.plain }

pub list_format : {A : Type 0} {F : A → Type 0} {s : A → List ℕ} {r : Reader A} → Format F s r → ((x : A) → 1 ≤ length (s x)) → Format (FitsItems F) (encode_list s) (list_at r)
list_format law some = record { again = list_again law.again some; encoded = list_encoded law.encoded; plain = list_plain law.plain }

module _ {A : Type 0} {F : A → Type 0} {s : A → List ℕ} {r : Reader A} (law : Format F s r) (bytes : List ℕ) where
  found : (result : Read A) → IsBytes bytes → Answers result (r bytes) → IfOk result (λ x. IsEncoded F s bytes x.0 x.1)
  found (Ok x) small h = law.encoded.encoded bytes x small h.done
  found (Err e) small h = tt

  parts_of : (result : Read A) → IfOk result (λ x. IsEncoded F s bytes x.0 x.1) → IfOk result (λ x. bytes ≡ s x.0 ++ x.1)
  parts_of (Ok x) h = h.parts
  parts_of (Err e) h = tt

  fits_of : (result : Read A) → IfOk result (λ x. IsEncoded F s bytes x.0 x.1) → IfOk result (λ x. F x.0)
  fits_of (Ok x) h = h.fits
  fits_of (Err e) h = tt

  read_twice : {x : A × List ℕ} {e : EditError} → Err e ≡ Ok x → ⊥
  read_twice both = cc

  none_there : (result : Read A) → Answers result (r bytes) → IfErr result (λ e. e ≢ NoMemory → (e ≡ ParseDiffs) × BeginsWithNone F s bytes)
  none_there (Ok x) h = tt
  none_there (Err e) h = λ other. (
    subst Refuses (h.refused other) (law.plain.only bytes),
    λ x rest fits same. read_twice (sym (h.refused other) ∙ ap r same ∙ law.again.again x rest fits),
  )

  -- a reader that answers what the reading function gives
  pub reads : (result : Read A) → IsBytes bytes → Answers result (r bytes) → Reads F s bytes result
  reads result small h =
      let one = found result small h in
      record {
        encoded = parts_of result one;
        fits = fits_of result one;
        again = λ x rest fits same. subst (Answers result) (ap r same ∙ law.again.again x rest fits) h;
        refused = none_there result h;
      }

  refusal : (e : EditError) (given : Read A) → r bytes ≡ given → IsBytes bytes → (e ≡ ParseDiffs) → BeginsWithNone F s bytes → r bytes ≡ Err e
  refusal e (Ok x) same small is none = let one = law.encoded.encoded bytes x small same in absurd (none x.0 x.1 one.fits one.parts)
  refusal e (Err d) same small is none = same ∙ ap Err (subst Refuses same (law.plain.only bytes) ∙ sym is)

  -- and back: what such a reader answers is what the reading function gives
  pub answers : (result : Read A) → IsBytes bytes → Reads F s bytes result → Answers result (r bytes)
  answers (Ok x) small h = record { done = ap r h.encoded ∙ law.again.again x.0 x.1 h.fits; refused = tt }
  answers (Err e) small h = record { done = tt; refused = λ other. let p = h.refused other in refusal e (r bytes) refl small p.0 p.1 }
