-- The bytes of what an edit does to lines.
use Rattle.std.specs.Prelude.{ℤ, List, ◌∷◌, ℕ, FitsSigned}
use Rattle.std.specs.Int.{w32}
use Rattle.line_edits.specs.declared.EditKind.{EditKind}
use Rattle.line_edits.specs.declared.EditKind.TheVariants.{Insert, Delete, Move}
use Rattle.base_wire.specs.Encoding.{encode_signed, encode_both}

-- a line, or how many lines
unfoldable pub encode_number : ℤ → List ℕ
encode_number z = encode_signed w32 z

-- the first line, and how many
abbrev pub encode_block : ℤ × ℤ → List ℕ
encode_block = encode_both encode_number encode_number

-- the same, and how far the lines move
abbrev pub encode_move : (ℤ × ℤ) × ℤ → List ℕ
encode_move = encode_both encode_block encode_number

-- whether lines come, go or move, and where
abbrev pub encode_edit : EditKind → List ℕ
encode_edit (Insert first count) = 0 ∷ encode_block (first, count)
encode_edit (Delete first count) = 1 ∷ encode_block (first, count)
encode_edit (Move first count delta) = 2 ∷ encode_move ((first, count), delta)

-- a line and a count of 32 bits
pub record FitsBlock (from amount : ℤ) : Type 0 where
  pub first : FitsSigned w32 from
  pub count : FitsSigned w32 amount

-- numbers of 32 bits
abbrev pub FitsEdit : EditKind → Type 0
FitsEdit (Insert first count) = FitsBlock first count
FitsEdit (Delete first count) = FitsBlock first count
FitsEdit (Move first count delta) = FitsBlock first count × FitsSigned w32 delta
