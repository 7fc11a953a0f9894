-- Items at an index of a list.
use Rattle.std.proofs.Common.{◌≡◌, ℕ, Bool, true, List, [], ◌∷◌, zero, suc, Some, ap, sym, ◌∙◌}
use Rattle.std.specs.Prelude.{slice_get}
use Rattle.std.specs.List.{list_all}
use Rattle.sheet_rules.specs.laws.EntryLaws.{both}

-- an item that is found passes what all pass
pub passes_at : {X : Type 0} (P : X → Bool) (xs : List X) (i : ℕ) (x : X) → slice_get xs i ≡ Some x → list_all P xs ≡ true → P x ≡ true
passes_at P [] i x found all = absurd (cc)
passes_at P (y ∷ ys) zero x found all = let same : y ≡ x = cc in ap P (sym same) ∙ (both (P y) (list_all P ys) all).0
passes_at P (y ∷ ys) (suc i) x found all = passes_at P ys i x found (both (P y) (list_all P ys) all).1
