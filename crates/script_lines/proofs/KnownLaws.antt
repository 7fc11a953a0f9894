-- Known bytes in two steps: for loops over a source or a sink.
use Rattle.std.proofs.Common.{◌≡◌, ℕ, List, ◌++◌, sym, ap, refl, append_assoc}
use Rattle.std.specs.declared.option.Option.{Option}
use Rattle.std.specs.declared.option.Option.TheVariants.{Some, None}
use Rattle.std.specs.Io.KnownBytes.{prepend_known, append_known}

pub prepend_known-prepend_known : (a b : List ℕ) (known : Option (List ℕ)) → prepend_known a (prepend_known b known) ≡ prepend_known (a ++ b) known
prepend_known-prepend_known a b None = refl
prepend_known-prepend_known a b (Some xs) = ap Some (sym (append_assoc a b xs))

pub append_known-append_known : (known : Option (List ℕ)) (a b : List ℕ) → append_known (append_known known a) b ≡ append_known known (a ++ b)
append_known-append_known None a b = refl
append_known-append_known (Some xs) a b = ap Some (append_assoc xs a b)
