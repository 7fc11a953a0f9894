-- The three laws of what a setting was and what it is.
use Rattle.std.specs.Prelude.{List, ℕ}
use Rattle.base_wire.specs.laws.Reading.{Reader}
use Rattle.base_wire.specs.Encoding.{Both, encode_both}
use Rattle.base_wire.specs.laws.Format.{Format}
use Rattle.base_wire.specs.laws.Formats.{both_format}
use Rattle.sheet_wire.specs.laws.Reading.{pair_at}

pub twice_format : {A : Type 0} {F : A → Type 0} {s : A → List ℕ} {r : Reader A} → Format F s r → Format (Both F F) (encode_both s s) (pair_at r)
twice_format law = both_format law law
