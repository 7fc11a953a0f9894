-- `==` of displacements is equality of their values.
use Rattle.std.specs.Cmp.{signed_Decides}
use Rattle.std.specs.Cmp.Lexicographic.{bytes_decides}
use Rattle.std.proofs.lemmas.Bool.Decides.{Decides-and}
use Rattle.formula_move.specs.declared.displace_data.DisplaceData.TheVariants as kind
use Rattle.formula_move.specs.Same.{TellsSame}

pub tells_same : TellsSame
tells_same (kind.Column s x d) (kind.Column t y e) = Decides-and _ _ (bytes_decides _ _) (Decides-and _ _ (signed_Decides _ _) (signed_Decides _ _))
tells_same (kind.Row s x d) (kind.Row t y e) = Decides-and _ _ (bytes_decides _ _) (Decides-and _ _ (signed_Decides _ _) (signed_Decides _ _))
tells_same (kind.CellHorizontal s x y d) (kind.CellHorizontal t z w e) =
    Decides-and _ _ (bytes_decides _ _) (Decides-and _ _ (signed_Decides _ _) (Decides-and _ _ (signed_Decides _ _) (signed_Decides _ _)))
tells_same (kind.CellVertical s x y d) (kind.CellVertical t z w e) =
    Decides-and _ _ (bytes_decides _ _) (Decides-and _ _ (signed_Decides _ _) (Decides-and _ _ (signed_Decides _ _) (signed_Decides _ _)))
tells_same (kind.RowMove s x d) (kind.RowMove t y e) = Decides-and _ _ (bytes_decides _ _) (Decides-and _ _ (signed_Decides _ _) (signed_Decides _ _))
tells_same (kind.ColumnMove s x d) (kind.ColumnMove t y e) = Decides-and _ _ (bytes_decides _ _) (Decides-and _ _ (signed_Decides _ _) (signed_Decides _ _))
tells_same kind.None kind.None = (λ _. tt, λ _. cc)
tells_same _ _ = (λ e. cc, λ never. absurd never)
