use Rattle.std.proofs.Common.{◌≡◌, sym, ◌∙◌}
use Rattle.base_tables.specs.Tables.{lowered}
use Rattle.base_tables.specs.laws.Tables.{if_some}
use Rattle.base_tables.specs.Function.{function_name}
use Rattle.base_tables.specs.laws.Function.{named_function, read_function}
use Rattle.base_tables.proofs.function.function_by_name.Goals as goal

pub returns-clause-named : goal.returns-clause-named
returns-clause-named c =
    if_some (λ function. lowered (function_name c.args.language function) ≡ lowered c.args.text.now) c.find_function.result
    (λ function e. named_function c.args.language c.args.text.now function (sym c.find_function.ensures ∙ e))

pub returns-clause-read : goal.returns-clause-read
returns-clause-read c function e = c.find_function.ensures ∙ read_function c.args.language c.args.text.now function e
