use Rattle.std.proofs.Common.{◌≡◌, map, take}
use Rattle.sheet_naming.specs.Listed.{listed_name}
use Rattle.sheet_naming.proofs.listing.listed_names.Given as goal

-- what is listed of the first names
abbrev pub invariant-loop-name : goal.invariant-loop-name
invariant-loop-name l = l.list ≡ map (listed_name l.locale l.language l.workbook) (take l.name-index l.name-items)
