-- The laws of the bytes of edits.
use Rattle.std.proofs.Common.{◌≡◌, ◌≤◌, List, ◌++◌, ℕ, length, Ok, refl, arith, eqb}
use Rattle.std.specs.Prelude.{FitsSigned}
use Rattle.std.specs.Int.{w32}
use Rattle.line_edits.specs.declared.EditKind.{EditKind}
use Rattle.line_edits.specs.declared.EditKind.TheVariants.{Insert, Delete, Move}
use Rattle.base_wire.specs.laws.Reading.{Reader, map_at, signed_at}
use Rattle.base_wire.specs.Encoding.{Both}
use Rattle.base_wire.specs.laws.Again.{ReadsAgain}
use Rattle.base_wire.specs.laws.Format.{Format}
use Rattle.base_wire.specs.laws.Formats.{both_format}
use Rattle.base_wire.specs.laws.Parts.{signed_format}
use Rattle.base_wire.specs.laws.Refusals.{IsPlain, map_plain, if_plain, refused_plain, tagged_plain}
use Rattle.base_wire.specs.laws.Encoded.{ReadsEncoded, tag_map, tag_if, tag_refused, tagged_encoded}
use Rattle.sheet_wire.specs.EditBytes.{encode_number, encode_block, encode_move, encode_edit, FitsEdit}
use Rattle.sheet_wire.specs.laws.LinesReading.{insertion, deletion, move, block_at, move_at, edit_of, edit_at}

number_format : Format (FitsSigned w32) encode_number (signed_at w32)
unfolding encode_number
number_format = signed_format

block_format : Format (Both (FitsSigned w32) (FitsSigned w32)) encode_block block_at
block_format = both_format number_format number_format

move_format : Format (Both (Both (FitsSigned w32) (FitsSigned w32)) (FitsSigned w32)) encode_move move_at
move_format = both_format block_format number_format

map_reads : {A B : Type 0} (f : A → B) (r : Reader A) (bytes : List ℕ) (x : A) (rest : List ℕ) → r bytes ≡ Ok (x, rest) → map_at f r bytes ≡ Ok (f x, rest)
map_reads f r bytes x rest h = rw h refl

edit_again : ReadsAgain FitsEdit encode_edit edit_at
unfolding edit_at
edit_again = record { again = one }
  where
    one : (x : EditKind) (rest : List ℕ) → FitsEdit x → edit_at (encode_edit x ++ rest) ≡ Ok (x, rest)
    one (Insert first count) rest fits = map_reads insertion block_at (encode_block (first, count) ++ rest) (first, count) rest (block_format.again.again (first, count) rest (fits.first, fits.count))
    one (Delete first count) rest fits = map_reads deletion block_at (encode_block (first, count) ++ rest) (first, count) rest (block_format.again.again (first, count) rest (fits.first, fits.count))
    one (Move first count delta) rest fits =
        map_reads move move_at (encode_move ((first, count), delta) ++ rest) ((first, count), delta) rest (move_format.again.again ((first, count), delta) rest ((fits.0.first, fits.0.count), fits.1))

edit_encoded : ReadsEncoded FitsEdit encode_edit edit_at
unfolding edit_at
edit_encoded =
    tagged_encoded edit_of (λ kind.
    tag_if kind 0 (tag_map block_format.encoded insertion FitsEdit encode_edit 0 (λ x. refl) (λ x fits. record { first = fits.0; count = fits.1 }))
    (tag_if kind 1 (tag_map block_format.encoded deletion FitsEdit encode_edit 1 (λ x. refl) (λ x fits. record { first = fits.0; count = fits.1 }))
    (tag_if kind 2 (tag_map move_format.encoded move FitsEdit encode_edit 2 (λ x. refl) (λ x fits. (record { first = fits.0.0; count = fits.0.1 }, fits.1)))
    (tag_refused FitsEdit encode_edit kind))))

edit_plain : IsPlain edit_at
unfolding edit_at
edit_plain =
    tagged_plain edit_of (λ kind.
    if_plain (eqb kind 0) (map_plain insertion block_format.plain)
    (if_plain (eqb kind 1) (map_plain deletion block_format.plain)
    (if_plain (eqb kind 2) (map_plain move move_format.plain) refused_plain)))

pub edit_format : Format FitsEdit encode_edit edit_at
edit_format = record { again = edit_again; encoded = edit_encoded; plain = edit_plain }

pub edit_some : (x : EditKind) → 1 ≤ length (encode_edit x)
edit_some (Insert first count) = omega arith
edit_some (Delete first count) = omega arith
edit_some (Move first count delta) = omega arith
