-- An empty map has no entry.
use Rattle.std.proofs.Common.{◌≡◌, Option, Some, None, ap, sym, ◌∙◌}
use Rattle.std.specs.declared.cmp.Ordering.{Ordering}
use Rattle.std.specs.FinMap.{FinMap, empty, get, get-empty}

apart : {X : Type 0} (x : X) → ◌≡◌ {A = Option X} None (Some x) → ⊥
apart x same = cc

pub none_there : {Q X : Type 0} {R : Q → Q → Ordering} (m : FinMap R X) → m ≡ empty → (p : Q) (x : X) → get m p ≡ Some x → ⊥
none_there {R = R} m is p x at = apart x (sym (get-empty R p) ∙ ap (λ n. get n p) (sym is) ∙ at)
