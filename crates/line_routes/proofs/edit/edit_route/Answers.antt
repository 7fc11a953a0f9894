use Rattle.std.proofs.Common.{rules, ap, ◌∙◌}
use Rattle.line_edits.specs.Edit.{image_at, is_valid, opposite_of}
use Rattle.line_edits.specs.Merged.{merged_by}
use Rattle.line_edits.specs.laws.Images.{opposite_twice, valid_opposite}
use Rattle.line_routes.proofs.edit.edit_route.Goals as goal

pub invariant_of-result : goal.invariant_of-result
invariant_of-result g c =
    let last = g.A.Axis.along.last in
    let kind = c.args.edit.now.kind in
    record {
      valid = c.requires.valid;
      valid_back = ap (is_valid last) c.requires.opposite ∙ valid_opposite last kind c.requires.valid;
      goes_back = ap (image_at last) c.requires.opposite;
      comes_back = ap (image_at last) (ap opposite_of c.requires.opposite ∙ opposite_twice kind);
      merges_back = ap (merged_by last) c.requires.opposite;
      merges_again = ap (merged_by last) (ap opposite_of c.requires.opposite ∙ opposite_twice kind);
      from_inside = search rules;
      to_inside = search rules;
    }
