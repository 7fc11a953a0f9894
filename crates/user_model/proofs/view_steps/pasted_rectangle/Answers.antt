use Rattle.std.proofs.Common.{◌≡◌, pos, true, false, refl, sym, ◌∙◌}
use Rattle.base_axis.specs.declared.MergedCell.{MergedCell}
use Rattle.base_axis.specs.Rectangles.{is_inside}
use Rattle.user_model.proofs.view_steps.pasted_rectangle.Goals as goal

abbrev nowhere : MergedCell
nowhere = record { row = pos 0; column = pos 0; width = pos 0; height = pos 0 }

outside : is_inside nowhere ≡ false
unfolding is_inside
outside = refl

pub returns-in-None-clause-inside : goal.returns-in-None-clause-inside
returns-in-None-clause-inside c = outside ∙ sym (c.in-None.ensures.far refl)

pub returns-in-None-clause-area : goal.returns-in-None-clause-area
returns-in-None-clause-area c = λ inside. absurd (let never : true ≡ false = sym inside ∙ outside in cc)
