-- Nothing is asked of a value that may be missing, nor of the items of a list.
use Rattle.std.proofs.Common.{List, [], ◌∷◌, Option, Some, None}
use Rattle.std.specs.List.{AllByRecursion}
use Rattle.std.specs.Prelude.{IfSome}
use Rattle.base_wire.specs.Encoding.{Any}

pub any_option : {A : Type 0} (o : Option A) → IfSome o Any
any_option None = tt
any_option (Some x) = tt

pub any_items : {A : Type 0} (xs : List A) → AllByRecursion Any xs
any_items [] = tt
any_items (x ∷ xs) = (tt, any_items xs)
