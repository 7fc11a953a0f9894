-- A new workbook of a script is what the machine begins with.
use Rattle.std.proofs.Common.{◌≡◌, ◌≢◌, Result, Ok, Err, refl, sym, ◌∙◌}
use Rattle.std.specs.Prelude.{codes, IfOk, IsOkUnless}
use Rattle.base_values.specs.declared.EditError.{EditError}
use Rattle.base_values.specs.declared.EditError.TheVariants.{NoMemory}
use Rattle.user_model.specs.Beginning.{new_state}
use Rattle.open_book.specs.Machine.{State}
use Rattle.open_book.specs.Stands.{StandsFor, Opens}
use Rattle.open_book.specs.Values.{Session}
use Rattle.script_runs.specs.Script.{start}

new_is_start : new_state (codes "workbook") (codes "en") (codes "UTC") (codes "en") ≡ Ok start
new_is_start = refl

only_memory : (error : EditError) → ((error ≢ NoMemory) → ⊥) → error ≡ NoMemory
only_memory NoMemory h = refl
only_memory _ h = absurd (h (λ e. cc))

pub starts : (result : Result Session EditError) → Opens result (new_state (codes "workbook") (codes "en") (codes "UTC") (codes "en")) → IfOk result (λ model. StandsFor model.document start)
starts (Ok model) opens = opens.done
starts (Err error) opens = tt

pub starts_only : (result : Result Session EditError) → Opens result (new_state (codes "workbook") (codes "en") (codes "UTC") (codes "en")) → IsOkUnless result NoMemory
starts_only (Ok model) opens = tt
starts_only (Err error) opens = only_memory error (λ other. let never : ◌≡◌ {A = Result State EditError} (Ok start) (Err error) = sym new_is_start ∙ opens.refused other in cc)
