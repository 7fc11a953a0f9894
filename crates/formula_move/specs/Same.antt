-- Two displacements with the same values.
use Rattle.std.specs.Prelude.{◌≡◌, ⊤}
use Rattle.std.specs.Bool.{Decides}
use Rattle.formula_move.specs.declared.displace_data.DisplaceData.{DisplaceData}
use Rattle.formula_move.specs.declared.displace_data.DisplaceData.TheVariants as kind
use Rattle.formula_move.specs.contracts.displace_data.DisplaceDataPartialEq.TheImpl as equality

-- the same kind, of sheets with the same name, with the same lines and the same delta
abbrev pub IsSame : DisplaceData → DisplaceData → Type 0
IsSame (kind.Column sheet column delta) (kind.Column sheet' column' delta') = (sheet.now ≡ sheet'.now) × ((column ≡ column') × (delta ≡ delta'))
IsSame (kind.Row sheet row delta) (kind.Row sheet' row' delta') = (sheet.now ≡ sheet'.now) × ((row ≡ row') × (delta ≡ delta'))
IsSame (kind.CellHorizontal sheet row column delta) (kind.CellHorizontal sheet' row' column' delta') =
    (sheet.now ≡ sheet'.now) × ((row ≡ row') × ((column ≡ column') × (delta ≡ delta')))
IsSame (kind.CellVertical sheet row column delta) (kind.CellVertical sheet' row' column' delta') =
    (sheet.now ≡ sheet'.now) × ((row ≡ row') × ((column ≡ column') × (delta ≡ delta')))
IsSame (kind.RowMove sheet row delta) (kind.RowMove sheet' row' delta') = (sheet.now ≡ sheet'.now) × ((row ≡ row') × (delta ≡ delta'))
IsSame (kind.ColumnMove sheet column delta) (kind.ColumnMove sheet' column' delta') = (sheet.now ≡ sheet'.now) × ((column ≡ column') × (delta ≡ delta'))
IsSame kind.None kind.None = ⊤
IsSame _ _ = ⊥

-- `==` of displacements tells whether their values are the same
abbrev pub TellsSame : Type 0
TellsSame = (a b : DisplaceData) → Decides (equality.ghosts.eq a b) (IsSame a b)
