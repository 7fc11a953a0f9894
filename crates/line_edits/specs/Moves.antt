-- Partial one-to-one maps on the lines of an axis.
use Rattle.std.specs.Prelude.{◌≡◌, ◌≢◌, ℤ, Bool, true, false, Option, Some, None, is_some, int_le, ◌&&◌, ◌||◌, IfSome}
use Rattle.base_values.specs.declared.Position.{Position}
use Rattle.base_values.specs.Places.{IsLine}
use Rattle.base_axis.specs.Along.{Along}
use Rattle.base_maps.specs.Carried.{Inverse}
use Rattle.line_edits.specs.declared.edit.Block.{Block}
use Rattle.line_edits.specs.declared.edit.EditKind.{EditKind}
use Rattle.line_edits.specs.declared.edit.EditKind.TheVariants.{Insert, Delete, Move}
use Rattle.line_edits.specs.Edit.{image_at, opposite_of, is_in_block}
use Rattle.line_edits.specs.Merged.{AreLines, merged_by}

-- where a line goes, where it came from, the lines that the map brings in; and what it makes of a merge, and what its opposite does
pub record LineMoves : Type 0 where
  pub to : ℤ → Option ℤ
  pub from : ℤ → Option ℤ
  pub inserted : Option Block
  pub merged : ℤ → ℤ → ℤ → Option (ℤ × ℤ)
  pub merged_back : ℤ → ℤ → ℤ → Option (ℤ × ℤ)

-- the lines that an edit brings in
abbrev pub inserted_by : EditKind → Option Block
inserted_by (Insert first count) = Some (record { first = first; count = count })
inserted_by (Delete first count) = None
inserted_by (Move first count delta) = None

-- the map of an edit: its lines come from where its opposite takes them
abbrev pub edit_moves : ℤ → EditKind → LineMoves
edit_moves last kind = record {
  to = image_at last kind;
  from = image_at last (opposite_of kind);
  inserted = inserted_by kind;
  merged = merged_by last kind;
  merged_back = merged_by last (opposite_of kind);
}

-- the map that takes the lines back. It brings none in
abbrev pub turned : LineMoves → LineMoves
turned m = record { to = m.from; from = m.to; inserted = None; merged = m.merged_back; merged_back = m.merged }

-- a line that is brought in
abbrev pub is_brought : Option Block → ℤ → Bool
is_brought None n = false
is_brought (Some block) n = is_in_block block.first block.count n

-- what is made of merges on lines of the axis, in order, stands on such lines
abbrev pub StaysInside : ℤ → (ℤ → ℤ → ℤ → Option (ℤ × ℤ)) → Type 0
StaysInside last merged = (first end across : ℤ) → AreLines last first end → IfSome (merged first end across) (λ lines. AreLines last lines.0 lines.1)

-- each line that goes somewhere comes from there, from lines of the axis to lines of it; what is brought in comes from nowhere; and
-- merges stay inside
pub record IsOneToOne (last : ℤ) (m : LineMoves) : Type 0 where
  pub inverse : Inverse m.to m.from
  pub to_inside : (n : ℤ) → IfSome (m.to n) (IsLine last)
  pub from_inside : (n : ℤ) → IfSome (m.from n) (IsLine last)
  pub fresh : (n : ℤ) → is_brought m.inserted n ≡ true → m.from n ≡ None
  pub merged_inside : StaysInside last m.merged
  pub merged_back_inside : StaysInside last m.merged_back

-- whether a line stands from one line to another, both counted, in either direction
abbrev pub is_between : ℤ → ℤ → ℤ → Bool
is_between start stop n = (int_le start n && int_le n stop) || (int_le stop n && int_le n start)

-- of the lines from one towards another the first with an image is found, or none has one
abbrev pub IsFirstImage : (ℤ → Option ℤ) → ℤ → ℤ → Option ℤ → Type 0
IsFirstImage to start stop None = (n : ℤ) → is_between start stop n ≡ true → to n ≡ None
IsFirstImage to start stop (Some found) =
    (is_between start stop found ≡ true) × (is_some (to found) ≡ true) × ((n : ℤ) → is_between start found n ≡ true → n ≢ found → to n ≡ None)

-- the place on that line, if there is one
abbrev pub at_line : Along → Position → Option ℤ → Option Position
at_line a place None = None
at_line a place (Some line) = Some (a.with_line place line)

-- where a place goes: with its line, across the same cross line
unfoldable pub place_image : Along → (ℤ → Option ℤ) → Position → Option Position
place_image a to place = at_line a place (to (a.line place))
