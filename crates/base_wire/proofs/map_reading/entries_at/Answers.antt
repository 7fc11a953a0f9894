use Rattle.std.proofs.Common.{arith}
use Rattle.base_wire.specs.laws.Format.{reads}
use Rattle.base_wire.specs.laws.MapFits.{of_answer}
use Rattle.base_wire.specs.laws.MapLaws.{entries_format}
use Rattle.base_wire.proofs.map_reading.entries_at.Goals as goal

pub returns-clause-fits : goal.returns-clause-fits
returns-clause-fits g c =
    let law = entries_format g.X.MapKey.order g.met.K.Part.format g.met.P.Part.format g.met.K.Part.some in
    of_answer _ _ (λ x fits. fits.0.each) c.sorted_entries_at.result (reads law c.args.bytes.now _ (λ i. omega (arith, c.type_inv.bytes i)) c.sorted_entries_at.ensures.read).fits
