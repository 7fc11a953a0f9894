use Rattle.std.proofs.Common.{◌≡◌, ◌<◌, length, get_or, vec_len, vec_capacity, ap, sym, ◌∙◌, arith}
use Rattle.std.specs.List.{insert, remove}
use Rattle.sheet_grid.proofs.Moving.{gone_well, moved_is}
use Rattle.sheet_grid.proofs.workbook.sheets.move_item.Goals as goal

pub returns-clause-ok : goal.returns-clause-ok
returns-clause-ok c =
    let list = c.args.list.now in
    let from = c.args.from in
    let to = c.args.to in
    let sheet = c.remove-sheet.result in
    let room : vec_len c.remove-sheet.new.self < vec_capacity c.remove-sheet.new.self = omega (arith, c.in_ok-reserve.ensures.ok, c.remove-sheet.ensures.len, c.remove-sheet.ensures.capacity) in
    let within : from < length list.items = omega (arith, c.requires.from, c.requires.len) in
    let read : sheet ≡ get_or list.items from sheet = c.remove-sheet.ensures.value ∙ ap (λ items. get_or items from sheet) c.reserve.ensures.items in
    gone_well c.insert-put.result _ _ _ (c.insert-put.ensures.succeeds room) c.insert-put.ensures.items
    ∙ ap (λ items. insert items to sheet) (c.remove-sheet.ensures.items ∙ ap (λ items. remove items from) c.reserve.ensures.items)
    ∙ sym (moved_is list.items from to sheet within read)
