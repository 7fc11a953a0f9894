use Rattle.std.proofs.Common.{◌∙◌}
use Rattle.style_edits.proofs.Numbers.{whole_number_read}
use Rattle.style_edits.proofs.values.whole_number.Goals as goal

pub returns : goal.returns
returns c = c.ok.ensures.value ∙ whole_number_read c.args.value.now _ c.parse.ensures.value.0
