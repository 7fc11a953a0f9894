use Rattle.std.proofs.Common.{arith}
use Rattle.base_wire.specs.laws.Format.{reads}
use Rattle.grid_wire.specs.laws.SettingFormats.{zone_format}
use Rattle.grid_wire.proofs.setting_parts.ZonePartPart.take.Goals as goal

pub returns : goal.returns
returns c = reads zone_format c.args.bytes.now _ (λ i. omega (arith, c.type_inv.bytes i)) c.zone_at.ensures
