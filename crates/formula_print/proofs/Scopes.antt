-- Names that are bound one after the other.
use Rattle.std.proofs.Common.{◌≡◌, ℕ, ◌+◌, ◌<◌, List, [], ◌∷◌, ◌++◌, length, get_or, take, map, ap, sym, ◌∙◌, append_assoc}
use Rattle.std.proofs.lemmas.List.{take_more, map-append}
use Rattle.formula_tree.specs.declared.Parameter.{Parameter}
use Rattle.formula_print.specs.declared.scope.Scope.{Scope}
use Rattle.formula_print.specs.Scope.{bind, bind_parameters}

-- the first parameters and one more
pub binds_more : (scope : Scope) (parameters : List Parameter) (i : ℕ) (d : Parameter) → i < length parameters
    → bind_parameters scope (take (i + 1) parameters) ≡ bind (bind_parameters scope (take i parameters)) (get_or parameters i d).name
binds_more scope parameters i d h =
    ap (bind_parameters scope) (take_more parameters i d h)
    ∙ ap (λ (z : List (List ℕ)). let s : Scope = record { marks = scope.marks; names = scope.names ++ z } in s) (map-append (λ p. p.name) (take i parameters) (get_or parameters i d ∷ []))
    ∙ ap (λ (z : List (List ℕ)). let s : Scope = record { marks = scope.marks; names = z } in s) (sym (append_assoc scope.names (map (λ p. p.name) (take i parameters)) ((get_or parameters i d).name ∷ [])))
