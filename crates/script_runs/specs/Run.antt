-- What a run leaves at its two ends.
use Rattle.std.specs.Prelude.{◌≡◌, ℕ, ◌≤◌, List, length}
use Rattle.std.specs.declared.option.Option.{Option}
use Rattle.std.specs.Io.KnownBytes.{prepend_known, append_known, IsAtEnd}
use Rattle.script_runs.specs.Script.{output_of}

-- a script was read to the source's end, and its output was taken
pub record Ran (most : ℕ) (left_before left_now taken_before taken_now : Option (List ℕ)) : Type 0 where
  pub script : List ℕ
  pub within : length script ≤ most
  pub read : left_before ≡ prepend_known script left_now
  pub ended : IsAtEnd left_now
  pub written : taken_now ≡ append_known taken_before (output_of script)
