-- What reading a part of a format answers, said by the encoding of the part alone.
use Rattle.std.specs.Prelude.{◌≡◌, ◌≢◌, ◌<◌, ◌+◌, ◌⊎◌, ℕ, List, ◌++◌, length, take, drop, Result, Ok, IfOk, IfErr}
use Rattle.std.specs.Int.{w64, from_be_bytes}
use Rattle.base_values.specs.Answers.{Answers}
use Rattle.base_values.specs.declared.EditError.{EditError}
use Rattle.base_values.specs.declared.EditError.TheVariants.{NoMemory, ParseDiffs}

-- a value and the bytes after it, or the refusal
abbrev pub Read : Type 0 → Type 0
Read A = Result (A × List ℕ) EditError

-- these bytes begin with the encoding of no value that bytes can carry
abbrev pub BeginsWithNone : {A : Type 0} → (A → Type 0) → (A → List ℕ) → List ℕ → Type 0
BeginsWithNone {A} Fits encode bytes = (x : A) → (rest : List ℕ) → Fits x → bytes ≢ encode x ++ rest

-- what is read was encoded so, and bytes can carry it; what they can carry is read from its encoding, whatever follows; and bytes
-- are refused only where they begin with no such value
pub record Reads {A : Type 0} (Fits : A → Type 0) (encode : A → List ℕ) (bytes : List ℕ) (result : Read A) : Type 0 where
  pub encoded : IfOk result (λ x. bytes ≡ encode x.0 ++ x.1)
  pub fits : IfOk result (λ x. Fits x.0)
  pub again : (x : A) → (rest : List ℕ) → Fits x → bytes ≡ encode x ++ rest → Answers result (Ok (x, rest))
  pub refused : IfErr result (λ e. e ≢ NoMemory → (e ≡ ParseDiffs) × BeginsWithNone Fits encode bytes)

-- these bytes are the encoding of a value that bytes can carry
pub record Encodes {A : Type 0} (Fits : A → Type 0) (encode : A → List ℕ) (bytes : List ℕ) (x : A) : Type 0 where
  pub fits : Fits x
  pub encoded : bytes ≡ encode x

-- what reading whole bytes answers: the value of which they are the bytes, or this refusal where there is none
pub record ReadsWhole {A : Type 0} (IsBytesOf : List ℕ → A → Type 0) (refusal : EditError) (bytes : List ℕ) (result : Result A EditError) : Type 0 where
  pub encoded : IfOk result (IsBytesOf bytes)
  pub again : (x : A) → IsBytesOf bytes x → Answers result (Ok x)
  pub refused : IfErr result (λ e. e ≢ NoMemory → e ≡ refusal)

-- bytes that begin with no count of eight bytes, or with one that is greater than the number of the bytes after it
abbrev pub HasNoCount : List ℕ → Type 0
HasNoCount bytes = length bytes < 8 + from_be_bytes w64 (take 8 bytes)

-- bytes that do not begin with these four and such a count
abbrev pub HasNoFront : List ℕ → List ℕ → Type 0
HasNoFront magic bytes = (take 4 bytes ≢ magic) ⊎ HasNoCount (drop 4 bytes)
