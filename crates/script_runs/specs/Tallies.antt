-- How answers are counted: by the first byte of what is written, which no two kinds share.
use Rattle.std.specs.Prelude.{ℕ, ◌+◌, ◌==◌, if◌then◌else◌}
use Rattle.std.specs.declared.option.Option.{Option}
use Rattle.std.specs.declared.option.Option.TheVariants.{Some, None}
use Rattle.script_runs.specs.declared.tally.Tally.{Tally}

abbrev pub counted_by : Option ℕ → Tally → Tally
counted_by None tally = tally
counted_by (Some byte) tally =
    if byte == 111 then record tally { ok = tally.ok + 1 }
    else if byte == 101 then record tally { error = tally.error + 1 }
    else if byte == 115 then record tally { sync = tally.sync + 1 }
    else tally
