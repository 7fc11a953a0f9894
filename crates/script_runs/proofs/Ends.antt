-- What a run leaves at ends that tell their bytes.
use Rattle.std.proofs.Common.{◌≡◌, ℕ, List, [], ◌++◌, ap, sym, subst, ◌∙◌}
use Rattle.std.specs.Prelude.{IfSome}
use Rattle.std.specs.declared.option.Option.{Option}
use Rattle.std.specs.declared.option.Option.TheVariants.{Some, None}
use Rattle.std.proofs.lemmas.List.{append-nil}
use Rattle.std.specs.Io.KnownBytes.{prepend_known, append_known, IsAtEnd}
use Rattle.script_runs.specs.Script.{output_of}

-- a source that was read to its end had the script left and nothing else
pub ran_told : (script : List ℕ) (before now taken_before taken_now : Option (List ℕ)) → before ≡ prepend_known script now → IsAtEnd now → taken_now ≡ append_known taken_before (output_of script)
    → IfSome before (λ s. (now ≡ Some []) × (taken_now ≡ append_known taken_before (output_of s)))
ran_told script before now taken_before taken_now read ended written =
    subst (λ o. IfSome o (λ s. (now ≡ Some []) × (taken_now ≡ append_known taken_before (output_of s)))) (sym read) (told now ended)
  where
    told : (n : Option (List ℕ)) → IsAtEnd n → IfSome (prepend_known script n) (λ s. (n ≡ Some []) × (taken_now ≡ append_known taken_before (output_of s)))
    told None h = tt
    told (Some rest) h = (ap Some h, written ∙ ap (λ (s : List ℕ). append_known taken_before (output_of s)) (sym (ap (λ r. script ++ r) h ∙ append-nil script)))
