-- A valid edit is one to one.
use Rattle.std.proofs.Common.{ℤ, refl, ap, sym, ◌∙◌}
use Rattle.line_edits.specs.declared.edit.EditKind.{EditKind}
use Rattle.line_edits.specs.Edit.{image_at, opposite_of, IsValid}
use Rattle.line_edits.specs.Moves.{IsOneToOne, edit_moves}
use Rattle.line_edits.specs.laws.Images.{image_back, image_inside, opposite_twice, valid_opposite, brought}
use Rattle.line_edits.specs.laws.MergedLaws.{merged_inside}

pub edit_one_to_one : (last : ℤ) (kind : EditKind) → IsValid last kind → IsOneToOne last (edit_moves last kind)
edit_one_to_one last kind valid = record {
  inverse = record {
    back = λ n m h. image_back last kind valid n m h;
    forth = λ n m h. ap (λ x. image_at last x n) (sym (opposite_twice kind)) ∙ image_back last (opposite_of kind) (valid_opposite last kind valid) m n h;
  };
  to_inside = λ n. image_inside last kind n _ refl;
  from_inside = λ n. image_inside last (opposite_of kind) n _ refl;
  fresh = brought last kind valid;
  merged_inside = merged_inside last kind valid;
  merged_back_inside = merged_inside last (opposite_of kind) (valid_opposite last kind valid);
}
