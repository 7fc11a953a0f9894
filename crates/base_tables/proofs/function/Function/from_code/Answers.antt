use Rattle.std.proofs.Common.{◌≡◌, sym, ◌∙◌}
use Rattle.base_tables.specs.laws.Tables.{if_some}
use Rattle.base_tables.specs.Function.{function_code}
use Rattle.base_tables.specs.laws.Function.{found_function}
use Rattle.base_tables.proofs.function.Function.from_code.Goals as goal

pub returns-clause-back : goal.returns-clause-back
returns-clause-back c =
    if_some (λ function. function_code function ≡ c.args.code) c.entry.result (λ function e. found_function c.args.code function (sym c.entry.ensures ∙ e))
