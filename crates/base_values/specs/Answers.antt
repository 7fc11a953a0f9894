-- What a call that may run out of memory returns.
use Rattle.std.proofs.Common.{◌≡◌, ◌≢◌, Option, Some, None, Result, Ok, Err}
use Rattle.std.specs.Prelude.{OnOk, IfOk, IfErr, IsOk}
use Rattle.base_values.specs.declared.error.EditError.{EditError}
use Rattle.base_values.specs.declared.error.EditError.TheVariants.{NoMemory}

-- the call returns the expected answer. Only where that is a value may it be out of memory
pub record Returns {T : Type 0} (result expected : Result T EditError) : Type 0 where
  pub done : IfOk result (λ value. expected ≡ Ok value)
  pub refused : IfErr result (λ error. error ≢ NoMemory → expected ≡ Err error)
  pub memory : IfErr result (λ error. error ≡ NoMemory → IsOk expected)

-- an edit makes the expected value, or refuses with the expected error and leaves the value as it was. Only where a value is
-- expected may it be out of memory, and then too the value is as it was
pub record Changes {S : Type 0} (result : Result (Unit {0}) EditError) (old new : S) (expected : Result S EditError) : Type 0 where
  pub done : OnOk result (expected ≡ Ok new)
  pub refused : IfErr result (λ error. (new ≡ old) × (error ≢ NoMemory → expected ≡ Err error))
  pub memory : IfErr result (λ error. error ≡ NoMemory → IsOk expected)

-- the same of a call whose tests take memory: it may be out of memory where a refusal is expected
pub record Answers {T : Type 0} (result expected : Result T EditError) : Type 0 where
  pub done : IfOk result (λ value. expected ≡ Ok value)
  pub refused : IfErr result (λ error. error ≢ NoMemory → expected ≡ Err error)

-- the same of an edit whose tests take memory
pub record Edits {S : Type 0} (result : Result (Unit {0}) EditError) (old new : S) (expected : Result S EditError) : Type 0 where
  pub done : OnOk result (expected ≡ Ok new)
  pub refused : IfErr result (λ error. (new ≡ old) × (error ≢ NoMemory → expected ≡ Err error))

-- the answer with a function of its value
abbrev pub map_ok : {A B E : Type 0} → (A → B) → Result A E → Result B E
map_ok f (Ok value) = Ok (f value)
map_ok f (Err error) = Err error

-- the value, or this error where there is none
abbrev pub ok_or : {A E : Type 0} → E → Option A → Result A E
ok_or error None = Err error
ok_or error (Some value) = Ok value

-- the answer of a second step on the value of the first
abbrev pub and_then : {A B E : Type 0} → Result A E → (A → Result B E) → Result B E
and_then (Ok value) f = f value
and_then (Err error) f = Err error
