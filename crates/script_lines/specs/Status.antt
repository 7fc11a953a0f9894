-- The numbers with which a program ends.
use Rattle.std.specs.Prelude.{ℕ, Ok, Err}
use Rattle.std.specs.declared.result.Result.{Result}
use Rattle.script_lines.specs.declared.error.RunError.{RunError}
use Rattle.script_lines.specs.declared.error.RunError.TheVariants.{ReadFault, WriteFault, TooLong, NoMemory}

abbrev pub status_number : Result (Unit {0}) RunError → ℕ
status_number (Ok done) = 0
status_number (Err ReadFault) = 2
status_number (Err WriteFault) = 3
status_number (Err TooLong) = 4
status_number (Err NoMemory) = 5
