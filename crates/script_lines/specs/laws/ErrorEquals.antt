-- `==` of errors is equality of their values.
use denote.Enum.Bare.{same_true, true_same}
use Rattle.std.proofs.Common.{◌≡◌, refl}
use Rattle.std.specs.Bool.{Decides}
use Rattle.script_lines.specs.declared.error.Failed.{Failed}
use Rattle.script_lines.specs.contracts.error.FailedPartialEq.TheImpl as failed
use Rattle.script_lines.specs.declared.error.RunError.{RunError}
use Rattle.script_lines.specs.contracts.error.RunError.{the_type}
use Rattle.script_lines.specs.contracts.error.RunErrorPartialEq.TheImpl as run_error

pub failed_equals : (a b : Failed) → Decides (failed.ghosts.eq a b) (a ≡ b)
failed_equals a b = (λ _. refl, λ _. refl)

pub run_error_equals : (a b : RunError) → Decides (run_error.ghosts.eq a b) (a ≡ b)
run_error_equals a b = (same_true the_type tt a b, true_same the_type a b)
