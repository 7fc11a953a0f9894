-- The laws of the bytes of the states of sheets.
use Rattle.std.proofs.Common.{◌≡◌, Some, refl}
use Rattle.sheet_grid.specs.declared.SheetState.{SheetState}
use Rattle.sheet_grid.specs.declared.SheetState.TheVariants.{Visible, Hidden, VeryHidden}
use Rattle.base_wire.specs.laws.Reading.{decoded, code_at}
use Rattle.base_wire.specs.Encoding.{Any, encode_code}
use Rattle.base_wire.specs.laws.Again.{code_again}
use Rattle.base_wire.specs.laws.Format.{Format}
use Rattle.base_wire.specs.laws.Refusals.{code_plain}
use Rattle.base_wire.specs.laws.Encoded.{code_encoded}
use Rattle.grid_wire.specs.StateBytes.{state_code}
use Rattle.grid_wire.specs.laws.Reading.{states}

state_known : (x : SheetState) → decoded state_code states (state_code x) ≡ Some x
state_known Visible = refl
state_known Hidden = refl
state_known VeryHidden = refl

pub state_format : Format Any (encode_code state_code) (code_at state_code states)
state_format = record { again = code_again state_code states state_known; encoded = code_encoded state_code states; plain = code_plain state_code states }
