-- Encoding: the parts of which every format is made, and what they can carry.
use Rattle.std.specs.Prelude.{ℕ, ◌<◌, ◌^◌, ℤ, List, [], ◌∷◌, ◌++◌, length, Bool, true, false, Option, Some, None}
use Rattle.std.specs.Str.{IsUtf8}
use Rattle.std.specs.List.{flat_map, AllByRecursion}
use Rattle.std.specs.Int.{Width, w64, cast_unsigned, to_be_bytes}

-- a signed number in two's complement, its highest byte first
abbrev pub encode_signed : Width → ℤ → List ℕ
encode_signed w z = to_be_bytes w (cast_unsigned w z)

-- a byte that stands for a value
abbrev pub encode_code : {A : Type 0} → (A → ℕ) → A → List ℕ
encode_code code_of x = code_of x ∷ []

abbrev pub boolean_code : Bool → ℕ
boolean_code false = 0
boolean_code true = 1

-- the length of a text in eight bytes, and its UTF-8
abbrev pub encode_text : List ℕ → List ℕ
encode_text text = to_be_bytes w64 (length text) ++ text

-- 0 for nothing, or 1 and the thing
abbrev pub encode_option : {A : Type 0} → (A → List ℕ) → Option A → List ℕ
encode_option encode None = 0 ∷ []
encode_option encode (Some x) = 1 ∷ encode x

-- the length of a list in eight bytes, and its items
abbrev pub encode_list : {A : Type 0} → (A → List ℕ) → List A → List ℕ
encode_list encode xs = to_be_bytes w64 (length xs) ++ flat_map encode xs

-- a text of Rust
pub record FitsText (text : List ℕ) : Type 0 where
  pub short : length text < 2 ^ 64
  pub utf8 : IsUtf8 text

-- a list whose items fit
pub record FitsItems {A : Type 0} (Fits : A → Type 0) (xs : List A) : Type 0 where
  pub short : length xs < 2 ^ 64
  pub each : AllByRecursion Fits xs

-- one part, and then another
abbrev pub encode_both : {A B : Type 0} → (A → List ℕ) → (B → List ℕ) → A × B → List ℕ
encode_both s t x = s x.0 ++ t x.1

abbrev pub Both : {A B : Type 0} → (A → Type 0) → (B → Type 0) → A × B → Type 0
Both F G x = F x.0 × G x.1

-- every value of the type
abbrev pub Any : {A : Type 0} → A → Type 0
Any x = Unit {0}
