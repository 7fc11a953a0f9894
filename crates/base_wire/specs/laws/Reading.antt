-- Reading bytes from left to right: the parts of which every format is made. Serves proofs alone.
use Rattle.std.specs.Prelude.{ℕ, zero, suc, ℤ, List, [], ◌∷◌, length, take, drop, Bool, Option, Some, None, Result, Ok, Err, nat_eq, nat_lt, ◌==◌, if◌then◌else◌, true, false}
use Rattle.std.specs.Cmp.Lexicographic.{pointwise}
use Rattle.std.specs.List.{find}
use Rattle.std.specs.Int.{Width, w64, byte_len, cast_signed, from_be_bytes, w128}
use Rattle.std.specs.Str.{is_utf8}
use Rattle.base_values.specs.declared.EditError.{EditError}
use Rattle.base_values.specs.declared.EditError.TheVariants.{ParseDiffs}
use Rattle.base_values.specs.Answers.{ok_or}
use Rattle.base_wire.specs.Reads.{Read}
use Rattle.base_tables.specs.declared.Error.{Error}
use Rattle.base_tables.specs.Error.{error_of_code}
use Rattle.base_decimal.specs.declared.Decimal.{Decimal}
use Rattle.base_decimal.specs.Canonical.{is_canonical}
use Rattle.base_wire.specs.Encoding.{boolean_code}

abbrev pub Reader : Type 0 → Type 0
Reader A = List ℕ → Read A

infixl 10 ◌>>=◌
abbrev pub ◌>>=◌ : {A B : Type 0} → Result A EditError → (A → Result B EditError) → Result B EditError
(Ok x) >>= f = f x
(Err e) >>= f = Err e

-- no value is encoded so
abbrev pub refused : {A : Type 0} → Reader A
refused bytes = Err ParseDiffs

-- a value that takes no bytes
abbrev pub plain : {A : Type 0} → A → Reader A
plain x bytes = Ok (x, bytes)

-- a function of what is read
abbrev pub map_at : {A B : Type 0} → (A → B) → Reader A → Reader B
map_at f read bytes = do
  x ← read bytes
  Ok (f x.0, x.1)

-- one thing, and then another
infixr 30 ◌⊗◌
abbrev pub ◌⊗◌ : {A B : Type 0} → Reader A → Reader B → Reader (A × B)
(read ⊗ next) bytes = do
  x ← read bytes
  y ← next x.1
  Ok ((x.0, y.0), y.1)

-- what is read passes a test
abbrev pub check_at : {A : Type 0} → (A → Bool) → Reader A → Reader A
check_at test read bytes = do
  x ← read bytes
  if test x.0 then Ok x else Err ParseDiffs

abbrev pub byte_at : Reader ℕ
byte_at [] = Err ParseDiffs
byte_at (b ∷ rest) = Ok (b, rest)

-- a byte that chooses what follows
abbrev pub tagged_at : {A : Type 0} → (ℕ → Reader A) → Reader A
tagged_at reader_of bytes = do
  tag ← byte_at bytes
  reader_of tag.0 tag.1

-- the value of a list with this code
abbrev pub decoded : {A : Type 0} → (A → ℕ) → List A → ℕ → Option A
decoded code_of values code = find (λ x. code_of x == code) values

-- the value that has the next byte as its code
abbrev pub coded_at : {A : Type 0} → (ℕ → Option A) → Reader A
coded_at value_of bytes = do
  code ← byte_at bytes
  value ← ok_or ParseDiffs (value_of code.0)
  Ok (value, code.1)

-- one of these values by its code
abbrev pub code_at : {A : Type 0} → (A → ℕ) → List A → Reader A
code_at code_of values = coded_at (decoded code_of values)

-- the bytes of an unsigned number, the highest first
abbrev pub number_at : Width → Reader ℕ
number_at w bytes = if nat_lt (length bytes) (byte_len w) then Err ParseDiffs else Ok (from_be_bytes w (take (byte_len w) bytes), drop (byte_len w) bytes)

-- the same of a signed number in two's complement
abbrev pub signed_at : Width → Reader ℤ
signed_at w = map_at (cast_signed w) (number_at w)

-- so many bytes
abbrev pub bytes_at : ℕ → Reader (List ℕ)
bytes_at n bytes = if nat_lt (length bytes) n then Err ParseDiffs else Ok (take n bytes, drop n bytes)

-- a length, and so many bytes
abbrev pub sized_at : Reader (List ℕ)
sized_at bytes = do
  n ← number_at w64 bytes
  bytes_at n.0 n.1

-- the same, where they are UTF-8
unfoldable pub text_at : Reader (List ℕ)
text_at bytes = do
  n ← number_at w64 bytes
  check_at is_utf8 (bytes_at n.0) n.1

-- 0 for nothing, or 1 and the thing
abbrev pub option_of : {A : Type 0} → Reader A → ℕ → Reader (Option A)
option_of read flag = if flag == 0 then plain None else if flag == 1 then map_at Some read else refused

abbrev pub option_at : {A : Type 0} → Reader A → Reader (Option A)
option_at read = tagged_at (option_of read)

-- so many, one after another
unfoldable pub many_at : {A : Type 0} → Reader A → ℕ → Reader (List A)
many_at read zero bytes = Ok ([], bytes)
many_at read (suc n) bytes = do
  first ← read bytes
  others ← many_at read n first.1
  Ok (first.0 ∷ others.0, others.1)

-- a count of items. Each takes a byte at least, so a count beyond the bytes that are left can't be
abbrev pub count_at : Reader ℕ
count_at bytes = do
  n ← number_at w64 bytes
  if nat_lt (length n.1) n.0 then Err ParseDiffs else Ok n

-- a count, and so many items
abbrev pub list_at : {A : Type 0} → Reader A → Reader (List A)
list_at read bytes = do
  n ← count_at bytes
  many_at read n.0 n.1

-- what stands after these first bytes
abbrev pub rest_after : List ℕ → List ℕ → Result (List ℕ) EditError
rest_after front bytes = if pointwise nat_eq (take (length front) bytes) front then Ok (drop (length front) bytes) else Err ParseDiffs

-- what follows these first bytes
abbrev pub after : {A : Type 0} → List ℕ → Reader A → Reader A
after front read bytes = do
  rest ← rest_after front bytes
  read rest

-- what stands after these first bytes, which begins with a count of what follows it
abbrev pub counted_after : List ℕ → List ℕ → Result (List ℕ) EditError
counted_after front bytes = do
  rest ← rest_after front bytes
  n ← count_at rest
  Ok rest

-- a value that takes all of the bytes
abbrev pub whole : {A : Type 0} → Reader A → List ℕ → Result A EditError
whole read bytes = do
  x ← read bytes
  if length x.1 == 0 then Ok x.0 else Err ParseDiffs

abbrev pub booleans : List Bool
booleans = false ∷ true ∷ []

abbrev pub boolean_at : Reader Bool
boolean_at = code_at boolean_code booleans

abbrev pub error_at : Reader Error
error_at = coded_at error_of_code

abbrev pub decimal_made : ℤ × ℕ → Decimal
decimal_made x = record { mantissa = x.0; places = x.1 }

-- only canonical numbers are encoded
unfoldable pub decimal_at : Reader Decimal
decimal_at = check_at is_canonical (map_at decimal_made (signed_at w128 ⊗ byte_at))
