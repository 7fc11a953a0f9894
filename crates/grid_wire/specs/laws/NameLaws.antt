-- The laws of the bytes of defined names.
use Rattle.std.proofs.Common.{◌≤◌, length, refl, arith}
use Rattle.defined_names.specs.declared.DefinedName.{DefinedName}
use Rattle.base_wire.specs.laws.Format.{Format, option_format}
use Rattle.base_wire.specs.laws.Formats.{both_format, made_format}
use Rattle.base_wire.specs.laws.Parts.{short_format, text_format}
use Rattle.formula_wire.specs.laws.NodeLaws.{node_format}
use Rattle.grid_wire.specs.NameBytes.{encode_name, FitsName}
use Rattle.grid_wire.specs.laws.Reading.{name_made, scope_at, name_at}

pub name_format : Format FitsName encode_name name_at
unfolding encode_name scope_at name_at
name_format =
    made_format (both_format text_format (both_format (option_format short_format) node_format)) name_made (λ name. (name.name, (name.scope, name.formula)))
    (λ name fits. (refl, (fits.name, (fits.scope, fits.formula)))) (λ x fits. (refl, record { name = fits.0; scope = fits.1.0; formula = fits.1.1 }))

pub name_some : (name : DefinedName) → 1 ≤ length (encode_name name)
unfolding encode_name
name_some name = omega arith
