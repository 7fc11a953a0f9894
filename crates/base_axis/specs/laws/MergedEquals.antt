-- `==` of rectangles is equality of their values.
use Rattle.std.proofs.Common.{◌≡◌, ap}
use Rattle.std.specs.Bool.{Decides}
use Rattle.std.specs.Cmp.{IsEquivalence, and_equiv, on_equiv, int_eq_equiv, signed_Decides}
use Rattle.std.proofs.lemmas.Bool.Decides.{Decides-like, Decides-and}
use Rattle.base_axis.specs.declared.merged_cell.MergedCell.{MergedCell}
use Rattle.base_axis.specs.contracts.merged_cell.MergedCellPartialEq.TheImpl as merged

pub merged_equals : (a b : MergedCell) → Decides (merged.ghosts.eq a b) (a ≡ b)
merged_equals a b =
    Decides-like _ (λ p i. record { row = p.0 i; column = p.1.0 i; width = p.1.1.0 i; height = p.1.1.1 i })
    (λ e. (ap (λ x. x.row) e, (ap (λ x. x.column) e, (ap (λ x. x.width) e, ap (λ x. x.height) e))))
    (Decides-and _ _ (signed_Decides _ _) (Decides-and _ _ (signed_Decides _ _) (Decides-and _ _ (signed_Decides _ _) (signed_Decides _ _))))

pub merged_equiv : IsEquivalence merged.ghosts.eq
merged_equiv =
    and_equiv (on_equiv (λ (r : MergedCell). r.row) int_eq_equiv)
    (and_equiv (on_equiv (λ (r : MergedCell). r.column) int_eq_equiv)
    (and_equiv (on_equiv (λ (r : MergedCell). r.width) int_eq_equiv) (on_equiv (λ (r : MergedCell). r.height) int_eq_equiv)))
