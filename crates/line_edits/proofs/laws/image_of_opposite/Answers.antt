use Rattle.line_edits.specs.laws.Images.{image_back}
use Rattle.line_edits.proofs.laws.image_of_opposite.Goals as goal

pub returns : goal.returns
returns g c = image_back g.A.Axis.along.last c.args.edit.now.kind c.requires
