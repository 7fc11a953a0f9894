use Rattle.std.proofs.Common.{sym, ◌∙◌}
use Rattle.base_axis.specs.laws.RectangleLaws.{inside_found}
use Rattle.user_model.proofs.view_steps.seen_by_pasting.Goals as goal

pub lines-first_row-requires : goal.lines-first_row-requires
lines-first_row-requires c = inside_found c.args.area (sym c.is_inside.ensures ∙ c.if-not-is_inside.false)

pub lines-first_column-requires : goal.lines-first_column-requires
lines-first_column-requires c = inside_found c.args.area (sym c.is_inside.ensures ∙ c.if-not-is_inside.false)
