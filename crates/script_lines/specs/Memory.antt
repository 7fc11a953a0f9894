-- What an end in memory tells, how often it was called, and which of its calls fail.
use Rattle.std.specs.Prelude.{ℕ, ◌-◌, List, drop, vec_len, vec_capacity}
use Rattle.std.specs.declared.option.Option.{Option}
use Rattle.std.specs.declared.option.Option.TheVariants.{Some}
use Rattle.script_lines.specs.declared.sure.SureSource.{SureSource}
use Rattle.script_lines.specs.declared.sure.SureSink.{SureSink}
use Rattle.script_lines.specs.declared.memory.MemorySource.{MemorySource}
use Rattle.script_lines.specs.declared.memory.MemorySink.{MemorySink}

-- an end that never fails counts no fault
abbrev pub no_fault : {A : Type 0} → A → ℕ
no_fault end = 0

abbrev pub sure_left : SureSource → Option (List ℕ)
sure_left s = Some (drop s.at s.bytes.items)

abbrev pub sure_taken : SureSink → Option (List ℕ)
sure_taken s = Some s.bytes.items

abbrev pub sure_spare : SureSink → ℕ
sure_spare s = vec_capacity s.bytes - vec_len s.bytes

abbrev pub source_left : MemorySource → Option (List ℕ)
source_left s = sure_left s.bytes

abbrev pub source_faults : MemorySource → ℕ
source_faults s = s.faults

-- the number of the next read
abbrev pub reads : MemorySource → ℕ
reads s = s.reads

abbrev pub failing_reads : MemorySource → List ℕ
failing_reads s = s.failing.items

abbrev pub sink_taken : MemorySink → Option (List ℕ)
sink_taken s = sure_taken s.bytes

abbrev pub sink_faults : MemorySink → ℕ
sink_faults s = s.faults

abbrev pub sink_spare : MemorySink → ℕ
sink_spare s = sure_spare s.bytes

-- the number of the next write
abbrev pub writes : MemorySink → ℕ
writes s = s.writes

abbrev pub failing_writes : MemorySink → List ℕ
failing_writes s = s.failing.items
