-- Partial maps that undo each other.
use Rattle.std.proofs.Common.{Option, Some, sym}
use Rattle.base_maps.specs.Carried.{Inverse}

-- where nothing goes anywhere
pub own_inverse : {K : Type 0} → Inverse {K = K} Some Some
own_inverse = record { back = λ p q e. sym e; forth = λ p q e. sym e }

pub turned_inverse : {K : Type 0} {to from : K → Option K} → Inverse to from → Inverse from to
turned_inverse i = record { back = λ p q h. i.forth q p h; forth = λ p q h. i.back q p h }
