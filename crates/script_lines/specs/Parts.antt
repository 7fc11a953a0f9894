-- The parts of a script: its lines, and the words of a line.
use Rattle.std.specs.Prelude.{ℕ, List, [], if◌then◌else◌, ◌==◌, ◌-◌, length, take, slice_index}
use Rattle.std.specs.List.{slice_split, join_with_byte}
use Rattle.std.specs.declared.option.Option.{Option}
use Rattle.std.specs.declared.option.Option.TheVariants.{Some, None}

-- the parts between separators
abbrev pub parts_at : ℕ → List ℕ → List (List ℕ)
parts_at separator bytes = slice_split (λ b. b == separator) bytes

-- the parts of what stands behind a separator, if there is one
abbrev pub parts_after : ℕ → Option (List ℕ) → List (List ℕ)
parts_after separator None = []
parts_after separator (Some bytes) = parts_at separator bytes

-- a line without a carriage return at its end
abbrev pub without_return : List ℕ → List ℕ
without_return line = if slice_index line (length line - 1) == 13 then take (length line - 1) line else line

-- words with the single spaces between them
abbrev pub text_of : List (List ℕ) → List ℕ
text_of words = join_with_byte 32 words
