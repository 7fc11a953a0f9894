use Rattle.std.proofs.Common.{arith}
use Rattle.base_wire.specs.laws.Format.{reads}
use Rattle.sheet_wire.specs.laws.SheetsFormats.{kept_sheet_format}
use Rattle.sheet_wire.proofs.sheets.KeptSheetPartPart.take.Goals as goal

pub returns : goal.returns
returns c = reads kept_sheet_format c.args.bytes.now _ (λ i. omega (arith, c.type_inv.bytes i)) c.kept_sheet_at.ensures
