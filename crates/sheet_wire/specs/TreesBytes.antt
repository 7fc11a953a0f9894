-- The bytes of a renamed sheet and of a changed defined name, and of the trees and the conditional rules that the way back does not give.
use Rattle.std.specs.Prelude.{ℕ, ◌<◌, ◌^◌, List, ◌++◌, IfSome}
use Rattle.std.specs.Int.{w32, w64, to_be_bytes}
use Rattle.std.specs.FinMap.{get}
use Rattle.base_maps.specs.declared.SheetPlace.{SheetPlace}
use Rattle.base_maps.specs.declared.SheetIndex.{SheetIndex}
use Rattle.book_names.specs.declared.KeptTrees.{KeptTrees}
use Rattle.name_edits.specs.declared.NameChange.{NameChange}
use Rattle.base_wire.specs.Encoding.{encode_option, encode_text, FitsText}
use Rattle.formula_wire.specs.NodeBytes.{encode_node}
use Rattle.formula_wire.specs.Carried.{FitsNode, IsKnownNode}
use Rattle.base_wire.specs.MapBytes.{encode_map, FitsMap}
use Rattle.grid_wire.specs.NameBytes.{encode_name, FitsName, IsKnownName}
use Rattle.grid_wire.specs.FormattingBytes.{encode_formatting, FitsFormatting, IsKnownFormatting}
use Rattle.sheet_wire.specs.PartBytes.{encode_sheet_place, FitsSheetPlace, encode_sheet_index, FitsSheetIndex}

-- ---- kept trees

-- the trees of cells, the conditional rules by their sheets and indexes, and the trees of defined names by their places in the list
unfoldable pub encode_trees : KeptTrees → List ℕ
encode_trees kept =
    encode_map encode_sheet_place encode_node kept.formulas
    ++ (encode_map encode_sheet_index encode_formatting kept.formattings ++ encode_map (to_be_bytes w64) encode_node kept.names)

-- trees and conditional rules that bytes can carry
pub record FitsTrees (kept : KeptTrees) : Type 0 where
  pub formulas : FitsMap FitsSheetPlace FitsNode kept.formulas
  pub names : FitsMap (λ place. place < 2 ^ 64) FitsNode kept.names
  pub formattings : FitsMap FitsSheetIndex FitsFormatting kept.formattings

-- what writing asks of them: their numbers are canonical, and they are at most 64 deep
pub record AreKnownTrees (kept : KeptTrees) : Type 0 where
  pub formulas : (place : SheetPlace) → IfSome (get kept.formulas place) IsKnownNode
  pub names : (place : ℕ) → IfSome (get kept.names place) IsKnownNode
  pub formattings : (place : SheetIndex) → IfSome (get kept.formattings place) IsKnownFormatting

-- ---- renamed sheets

-- the id of the sheet, its old name, its new name, and what is kept
unfoldable pub encode_rename : ℕ → List ℕ → List ℕ → KeptTrees → List ℕ
encode_rename id old new kept = to_be_bytes w32 id ++ (encode_text old ++ (encode_text new ++ encode_trees kept))

-- the parts of a renamed sheet, which bytes can carry
pub record FitsRename (id : ℕ) (before later : List ℕ) (trees : KeptTrees) : Type 0 where
  pub sheet : id < 2 ^ 32
  pub old : FitsText before
  pub new : FitsText later
  pub kept : FitsTrees trees

-- ---- changed names

-- the place of the name, the old one, the new one, and what is kept
unfoldable pub encode_name_change : NameChange → KeptTrees → List ℕ
encode_name_change change kept = to_be_bytes w64 change.index ++ (encode_option encode_name change.old ++ (encode_option encode_name change.new ++ encode_trees kept))

-- the parts of a changed name, which bytes can carry
pub record FitsNameChange (change : NameChange) (trees : KeptTrees) : Type 0 where
  pub index : change.index < 2 ^ 64
  pub old : IfSome change.old FitsName
  pub new : IfSome change.new FitsName
  pub kept : FitsTrees trees

-- what writing asks of them
pub record IsKnownChange (change : NameChange) (trees : KeptTrees) : Type 0 where
  pub old : IfSome change.old IsKnownName
  pub new : IfSome change.new IsKnownName
  pub kept : AreKnownTrees trees
