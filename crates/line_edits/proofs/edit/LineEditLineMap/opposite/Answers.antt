use Rattle.std.proofs.Common.{ap, ◌∙◌}
use Rattle.line_edits.specs.Edit.{image_at, opposite_of}
use Rattle.line_edits.specs.Merged.{merged_by}
use Rattle.line_edits.specs.laws.Images.{opposite_twice}
use Rattle.line_edits.proofs.edit.LineEditLineMap.opposite.Goals as goal

pub returns-clause-merged_back : goal.returns-clause-merged_back
returns-clause-merged_back g c =
    let last = g.A.Axis.along.last in
    ap (λ k. merged_by last (opposite_of k)) c.opposite.ensures.kind ∙ ap (merged_by last) (opposite_twice c.args.self.now.kind)

pub returns-clause-from : goal.returns-clause-from
returns-clause-from g c =
    let last = g.A.Axis.along.last in
    ap (λ k. image_at last (opposite_of k)) c.opposite.ensures.kind ∙ ap (image_at last) (opposite_twice c.args.self.now.kind)
