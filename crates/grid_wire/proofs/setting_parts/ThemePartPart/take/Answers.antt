use Rattle.std.proofs.Common.{arith}
use Rattle.base_wire.specs.laws.Format.{reads}
use Rattle.grid_wire.specs.laws.SettingFormats.{theme_format}
use Rattle.grid_wire.proofs.setting_parts.ThemePartPart.take.Goals as goal

pub returns : goal.returns
returns c = reads theme_format c.args.bytes.now _ (λ i. omega (arith, c.type_inv.bytes i)) c.theme_at.ensures
