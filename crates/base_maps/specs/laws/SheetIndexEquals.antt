-- `==` of indexes of sheets is equality of their values.
use Rattle.std.proofs.Common.{◌≡◌, ap}
use Rattle.std.specs.Bool.{Decides}
use Rattle.std.specs.Cmp.{unsigned_Decides}
use Rattle.std.proofs.lemmas.Bool.Decides.{Decides-like, Decides-and}
use Rattle.base_maps.specs.declared.sheet_index.SheetIndex.{SheetIndex}
use Rattle.base_maps.specs.contracts.sheet_index.SheetIndexPartialEq.TheImpl as sheet_index

pub sheet_index_equals : (a b : SheetIndex) → Decides (sheet_index.ghosts.eq a b) (a ≡ b)
sheet_index_equals a b =
    Decides-like _ (λ p i. record { sheet = p.0 i; index = p.1 i }) (λ e. (ap (λ x. x.sheet) e, ap (λ x. x.index) e))
    (Decides-and _ _ (unsigned_Decides a.sheet b.sheet) (unsigned_Decides a.index b.index))
