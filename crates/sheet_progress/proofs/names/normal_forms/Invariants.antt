use Rattle.std.proofs.Common.{◌≡◌, map, take}
use Rattle.sheet_progress.specs.Names.{normal_form}
use Rattle.sheet_progress.proofs.names.normal_forms.Given as goal

abbrev pub invariant-loop-name : goal.invariant-loop-name
invariant-loop-name l = l.forms.items ≡ map normal_form (map (λ name. name.now) (take l.name-index l.names))
