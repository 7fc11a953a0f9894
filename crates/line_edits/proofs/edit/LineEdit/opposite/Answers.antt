use Rattle.std.proofs.Common.{sym, subst, ◌∙◌}
use Rattle.line_edits.specs.declared.edit.EditKind.{EditKind}
use Rattle.line_edits.specs.Edit.{IsValid}
use Rattle.line_edits.specs.laws.Images.{valid_opposite}
use Rattle.line_edits.proofs.edit.LineEdit.opposite.Goals as goal

pub returns-clause-valid : goal.returns-clause-valid
returns-clause-valid g c =
    let P : EditKind → Type 0 = IsValid g.A.Axis.along.last in
    subst P (sym (c.new.ensures ∙ c.opposite.ensures)) (valid_opposite g.A.Axis.along.last c.args.self.now.kind c.requires)
