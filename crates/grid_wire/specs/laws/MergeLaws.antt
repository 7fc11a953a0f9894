-- The laws of the bytes of links and of merged cells.
use Rattle.std.proofs.Common.{◌≤◌, length, refl, arith}
use Rattle.base_axis.specs.declared.MergedCell.{MergedCell}
use Rattle.base_wire.specs.laws.Format.{Format, list_format}
use Rattle.base_wire.specs.laws.Formats.{both_format, made_format}
use Rattle.base_wire.specs.laws.Parts.{signed_format, text_format}
use Rattle.grid_wire.specs.LinkBytes.{encode_link, FitsLink}
use Rattle.grid_wire.specs.laws.CellReading.{link_made, link_at, merge_made, merge_at, merges_at}
use Rattle.grid_wire.specs.MergeBytes.{encode_merge, FitsMerge, encode_merges, FitsMerges}

pub link_format : Format FitsLink encode_link link_at
unfolding link_at
link_format = made_format text_format link_made (λ link. link.target) (λ link fits. (refl, fits)) (λ x fits. (refl, fits))

pub merge_format : Format FitsMerge encode_merge merge_at
unfolding merge_at encode_merge
merge_format =
    made_format (both_format signed_format (both_format signed_format (both_format signed_format signed_format)))
    merge_made (λ merge. (merge.row, (merge.column, (merge.width, merge.height))))
    (λ merge fits. (refl, (fits.row, (fits.column, (fits.width, fits.height)))))
    (λ x fits. (refl, record { row = fits.0; column = fits.1.0; width = fits.1.1.0; height = fits.1.1.1 }))

pub merge_some : (merge : MergedCell) → 1 ≤ length (encode_merge merge)
unfolding encode_merge
merge_some merge = omega arith

pub merges_format : Format FitsMerges encode_merges merges_at
unfolding merges_at
merges_format = list_format merge_format merge_some
