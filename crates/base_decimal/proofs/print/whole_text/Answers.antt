use Rattle.std.proofs.Common.{rules}
use Rattle.base_decimal.proofs.print.whole_text.Goals as goal

pub returns-else-negative : goal.returns-else-negative
returns-else-negative c = rw c.if-negative.false (search rules)
