-- The laws of the bytes of queues.
use Rattle.std.proofs.Common.{◌≡◌, ℕ, List, Result, Err, Ok, refl, sym, ◌∙◌}
use Rattle.base_values.specs.Answers.{Answers}
use Rattle.base_values.specs.declared.EditError.{EditError}
use Rattle.base_values.specs.declared.EditError.TheVariants.{ParseDiffs}
use Rattle.sheet_history.specs.declared.QueueDiffs.{QueueDiffs}
use Rattle.base_wire.specs.Reads.{HasNoFront, ReadsWhole}
use Rattle.base_wire.specs.laws.Encoded.{IsBytes}
use Rattle.base_wire.specs.laws.Reading.{counted_after, list_at}
use Rattle.base_wire.specs.laws.Whole.{no_front, reads_whole}
use Rattle.grid_wire.specs.laws.FrontLaws.{front_refused, list_asks}
use Rattle.sheet_wire.specs.QueueBytes.{encode_queue, magic, IsQueue}
use Rattle.sheet_wire.specs.laws.Reading.{entry_at, queue_of}
use Rattle.sheet_wire.specs.laws.QueueFormats.{queue_format}

-- what answers as the steps of the reader reads the bytes of queues
pub queue_reads : (bytes : List ℕ) (result : Result (List QueueDiffs) EditError) → IsBytes bytes → Answers result (queue_of bytes) → ReadsWhole IsQueue ParseDiffs bytes result
unfolding encode_queue queue_of
queue_reads bytes result small h = reads_whole queue_format bytes result small h

-- bytes that do not begin as a queue's are refused as such
pub queue_refused : (bytes : List ℕ) (e : EditError) → counted_after magic bytes ≡ Err e → queue_of bytes ≡ Err e
unfolding queue_of
queue_refused bytes e refused = front_refused (list_at entry_at) (list_asks entry_at) magic bytes e refused

-- they are refused at once
pub no_queue_front : (bytes : List ℕ) → HasNoFront magic bytes → counted_after magic bytes ≡ Err ParseDiffs
no_queue_front bytes none = no_front magic bytes refl none

-- and with nothing but the refusal
pub front_error : (bytes : List ℕ) (e : EditError) → counted_after magic bytes ≡ Err e → HasNoFront magic bytes → e ≡ ParseDiffs
front_error bytes e refused none = let both : ◌≡◌ {A = Result (List ℕ) EditError} (Err e) (Err ParseDiffs) = sym refused ∙ no_queue_front bytes none in cc

pub front_never : (bytes rest : List ℕ) → counted_after magic bytes ≡ Ok rest → HasNoFront magic bytes → ⊥
front_never bytes rest read none = let both : ◌≡◌ {A = Result (List ℕ) EditError} (Ok rest) (Err ParseDiffs) = sym read ∙ no_queue_front bytes none in absurd cc
