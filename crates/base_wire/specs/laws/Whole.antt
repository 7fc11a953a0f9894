-- The laws of readers of whole bytes.
use Rattle.std.proofs.Common.{◌≡◌, ◌≢◌, ℕ, Bool, true, false, List, length, take, drop, Result, Ok, Err, refl, sym, ap, subst, ◌∙◌, arith, inl, inr}
use Rattle.std.specs.Prelude.{IfOk, IfErr, ◌⊎◌, nat_eq, nat_lt}
use Rattle.std.specs.Cmp.Lexicographic.{pointwise, bytes_decides}
use Rattle.std.specs.Int.{w64, from_be_bytes}
use Rattle.base_values.specs.Answers.{Answers}
use Rattle.base_values.specs.declared.EditError.{EditError}
use Rattle.base_values.specs.declared.EditError.TheVariants.{NoMemory, ParseDiffs}
use Rattle.base_wire.specs.Reads.{Encodes, ReadsWhole, HasNoCount, HasNoFront}
use Rattle.base_wire.specs.laws.Reading.{Reader, count_at, counted_after, rest_after, whole}
use Rattle.base_wire.specs.laws.Again.{whole_again}
use Rattle.base_wire.specs.laws.Encoded.{IsBytes, whole_encoded}
use Rattle.base_wire.specs.laws.Refusals.{Refuses, whole_refuses}
use Rattle.base_wire.specs.laws.Format.{Format}

module _ {A : Type 0} {F : A → Type 0} {s : A → List ℕ} {r : Reader A} (law : Format F s r) (bytes : List ℕ) where
  found : (result : Result A EditError) → IsBytes bytes → Answers result (whole r bytes) → IfOk result (Encodes F s bytes)
  found (Ok x) small h = let p = whole_encoded law.encoded bytes x small h.done in record { fits = p.1; encoded = p.0 }
  found (Err e) small h = tt

  refusal : (result : Result A EditError) → Answers result (whole r bytes) → IfErr result (λ e. e ≢ NoMemory → e ≡ ParseDiffs)
  refusal (Ok x) h = tt
  refusal (Err e) h = λ other. subst Refuses (h.refused other) (whole_refuses law.plain bytes)

  -- what answers as the steps of a reader do reads whole bytes
  pub reads_whole : (result : Result A EditError) → IsBytes bytes → Answers result (whole r bytes) → ReadsWhole (Encodes F s) ParseDiffs bytes result
  reads_whole result small h = record {
    encoded = found result small h;
    again = λ x is. subst (Answers result) (ap (whole r) is.encoded ∙ whole_again law.again x is.fits) h;
    refused = refusal result h;
  }

apart : {A : Type 0} {x : A} {e : EditError} → Ok x ≡ Err e → ⊥
apart both = cc

module _ {A : Type 0} {Is : List ℕ → A → Type 0} {bytes : List ℕ} where
  -- a door that says another word for the same refusal
  pub reads_otherwise : (e refusal : EditError) → ReadsWhole Is ParseDiffs bytes (Err e) → e ≢ NoMemory → ReadsWhole Is refusal bytes (Err refusal)
  reads_otherwise e refusal reads other = record { encoded = tt; again = λ x is. absurd (apart ((reads.again x is).refused other)); refused = λ _. refl }

  -- bytes that are refused, but for want of memory, are those of no value
  pub reads_none : (e refusal : EditError) → ReadsWhole Is refusal bytes (Err e) → e ≢ NoMemory → (x : A) → Is bytes x → ⊥
  reads_none e refusal reads other x is = apart ((reads.again x is).refused other)

-- ---- bytes without a front

-- bytes without a count have none that can be read
pub no_count : (bytes : List ℕ) → HasNoCount bytes → count_at bytes ≡ Err ParseDiffs
no_count bytes none = go (nat_lt (length bytes) 8) refl
  where
    go : (b : Bool) → nat_lt (length bytes) 8 ≡ b → count_at bytes ≡ Err ParseDiffs
    go true short = rw short refl
    go false long = grind (arith, none, long)

module _ (magic bytes : List ℕ) where
  no_rest : take (length magic) bytes ≢ magic → rest_after magic bytes ≡ Err ParseDiffs
  no_rest other = go (pointwise nat_eq (take (length magic) bytes) magic) refl
    where
      go : (b : Bool) → pointwise nat_eq (take (length magic) bytes) magic ≡ b → rest_after magic bytes ≡ Err ParseDiffs
      go true same = absurd (other ((bytes_decides (take (length magic) bytes) magic).0 same))
      go false differs = rw differs refl

  -- bytes that do not begin with a format's first four and a count are refused at once
  pub no_front : length magic ≡ 4 → HasNoFront magic bytes → counted_after magic bytes ≡ Err ParseDiffs
  no_front four (inl other) = rw (no_rest (subst (λ n. take n bytes ≢ magic) (sym four) other)) refl
  no_front four (inr none) = go (pointwise nat_eq (take (length magic) bytes) magic) refl
    where
      go : (b : Bool) → pointwise nat_eq (take (length magic) bytes) magic ≡ b → counted_after magic bytes ≡ Err ParseDiffs
      go true same = rw (same, no_count (drop (length magic) bytes) (subst (λ n. HasNoCount (drop n bytes)) (sym four) none)) refl
      go false differs = rw differs refl
