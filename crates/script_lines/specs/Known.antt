-- What a read takes from the front of the bytes that are left, and what a write adds to those taken, where these are told.
use Rattle.std.specs.Prelude.{◌≡◌, ℕ, ◌+◌, ◌<◌, ◌≤◌, List, [], length, take, IfOk, OnErr}
use Rattle.std.specs.declared.option.Option.{Option}
use Rattle.std.specs.declared.option.Option.TheVariants.{Some}
use Rattle.std.specs.declared.result.Result.{Result}
use Rattle.std.specs.Io.KnownBytes.{prepend_known, append_known, IsAtEnd}

-- a read took just the bytes that it put at the front of the buffer: none for a buffer with room only at the end, and none at the end
pub record Takes {E : Type 0} (before now : Option (List ℕ)) (result : Result ℕ E) (buffer : List ℕ) : Type 0 where
  pub within : IfOk result (λ n. n ≤ length buffer)
  pub taken : IfOk result (λ n. before ≡ prepend_known (take n buffer) now)
  pub ended : IfOk result (λ n. n ≡ 0 → 0 < length buffer → IsAtEnd now)
  pub none_left : IfOk result (λ n. before ≡ Some [] → n ≡ 0)
  pub failed : OnErr result (now ≡ before)

-- a write took just the first bytes of its piece, at least one if there is one
pub record Adds {E : Type 0} (before now : Option (List ℕ)) (result : Result ℕ E) (piece : List ℕ) : Type 0 where
  pub within : IfOk result (λ n. n ≤ length piece)
  pub moves : IfOk result (λ n. 0 < length piece → 0 < n)
  pub added : IfOk result (λ n. now ≡ append_known before (take n piece))
  pub failed : OnErr result (now ≡ before)

-- a write lowers the room by at most what it took
pub record UsesRoom {E : Type 0} (before now : ℕ) (result : Result ℕ E) : Type 0 where
  pub took : IfOk result (λ n. before ≤ now + n)
  pub failed : OnErr result (before ≤ now)
