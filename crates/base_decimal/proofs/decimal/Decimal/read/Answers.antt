use Rattle.std.proofs.Common.{◌≡◌, ◌∙◌}
use Rattle.base_tables.specs.Locale.{decimal_sign}
use Rattle.base_decimal.specs.laws.Reading.{decimal_of}
use Rattle.base_decimal.proofs.Marks.{only_reads}
use Rattle.base_decimal.proofs.decimal.Decimal.read.Goals as goal

pub returns-clause-only : goal.returns-clause-only
returns-clause-only c =
    λ d reads. let e : c.read.result ≡ decimal_of (decimal_sign c.args.locale) c.args.text.now = cc in e ∙ only_reads c.args.locale c.args.text.now d reads
