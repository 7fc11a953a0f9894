use Rattle.std.proofs.Common.{◌≡◌, ℕ, Some, ap, subst, sym, ◌∙◌}
use Rattle.std.specs.Prelude.{◌==◌}
use Rattle.std.specs.Cmp.{int_cmp_total}
use Rattle.std.specs.FinMap.{FinMap, get}
use Rattle.std.specs.Ordering.{int_cmp}
use Rattle.std.proofs.lemmas.Map.Lookups.{exact_signed}
use Rattle.base_values.specs.Places.{position_cmp}
use Rattle.base_values.specs.laws.Places.{position_total, exact_positions}
use Rattle.base_values.specs.declared.Position.{Position}
use Rattle.base_axis.specs.Along.{Along, rows, columns}
use Rattle.base_maps.specs.Carried.{lost_map}
use Rattle.base_maps.specs.laws.CarriedLaws.{get-carried_map, get-moved_map}
use Rattle.base_maps.specs.laws.Gathering.{get-lost_map}
use Rattle.base_maps.specs.laws.Found.{found_passes}
use Rattle.line_edits.specs.declared.EditKind.{EditKind}
use Rattle.line_edits.specs.Moves.{edit_moves, place_image}
use Rattle.line_map.specs.Contents.{cell_carried}
use Rattle.line_map.specs.Maps.{entry_lost}
use Rattle.line_routes.specs.RouteModel.{at, back, place_goes}
use Rattle.line_routes.specs.laws.RouteLaws.{goes_inverse}
use Rattle.line_map.specs.Rules.{KeepsRule}
use Rattle.line_map.specs.laws.RuleLaws.{rules_are_kept}
use Rattle.sheet_grid.specs.Book.{Book}
use Rattle.sheet_grid.specs.Sheet.{Sheet}
use Rattle.sheet_grid.specs.contracts.line_attr.LineAttrPartialEq.TheImpl as attribute
use Rattle.sheet_lines.specs.Followed.{book_route, route_of, route_of_edit}
use Rattle.sheet_lines.specs.Kept.{lines_of, edited_kept}
use Rattle.sheet_ids.specs.Ids.{sheet_of}
use Rattle.sheet_lines.specs.laws.LinesAfter.{get-lines_carried}
use Rattle.sheet_lines.specs.laws.Regained.{formulas_at}
use Rattle.sheet_lines.specs.laws.Stays.{lost_places, way_is}
use Rattle.sheet_lines.proofs.laws.entries_of_sheets.Goals as goal

pub returns-clause-cells : goal.returns-clause-cells
returns-clause-cells g c edited sheet q =
    let a = g.A.Axis.along in
    let e = c.args.edit.now.kind in
    let w = route_of a (edit_moves a.last e) c.args.sheet_id edited sheet in
    get-carried_map position_cmp position_total exact_positions (place_goes w) (place_goes (back w))
    (goes_inverse w (way_is a g.met.A.Axis.lawful e c.requires.valid c.args.sheet_id edited sheet)) (λ p q x. cell_carried (at w p q) x) sheet.cells q

pub returns-clause-links : goal.returns-clause-links
returns-clause-links g c edited sheet q =
    let a = g.A.Axis.along in
    let e = c.args.edit.now.kind in
    let w = route_of a (edit_moves a.last e) c.args.sheet_id edited sheet in
    get-moved_map position_cmp position_total exact_positions (place_goes w) (place_goes (back w))
    (goes_inverse w (way_is a g.met.A.Axis.lawful e c.requires.valid c.args.sheet_id edited sheet)) sheet.links q

pub returns-clause-lines : goal.returns-clause-lines
returns-clause-lines g c edited sheet =
    let a = g.A.Axis.along in
    let e = c.args.edit.now.kind in
    let w = route_of a (edit_moves a.last e) c.args.sheet_id edited sheet in
    let is = way_is a g.met.A.Axis.lawful e c.requires.valid c.args.sheet_id edited sheet in record {
      rows = get-lines_carried w is rows attribute.ghosts.eq sheet.rows;
      columns = get-lines_carried w is columns attribute.ghosts.eq sheet.columns;
    }

-- what is lost of the edited sheet by place
lost_entries : {X : Type 0} (a : Along) (e : EditKind) (id : ℕ) (book : Book) (sheet : Sheet) (m : FinMap position_cmp X) →
    sheet_of book id ≡ Some sheet → (p : Position) →
    get (lost_map (place_image a (edit_moves a.last e).to) m) p ≡ entry_lost (place_goes (route_of_edit a e id book sheet)) m p
lost_entries a e id book sheet m found p =
    let w = route_of_edit a e id book sheet in
    ap (λ lost. get lost p) (sym (lost_places w (found_passes (λ s. s.id == id) book.worksheets sheet found) m))
    ∙ get-lost_map position_cmp position_total exact_positions (place_goes w) m p

pub returns-clause-lost_cells : goal.returns-clause-lost_cells
returns-clause-lost_cells g c sheet found p =
    let a = g.A.Axis.along in
    let e = c.args.edit.now.kind in
    ap (λ o. get (edited_kept (book_route a e c.args.sheet_id c.args.workbook.now) o).cells p) found
    ∙ lost_entries a e c.args.sheet_id c.args.workbook.now sheet sheet.cells found p

pub returns-clause-lost_links : goal.returns-clause-lost_links
returns-clause-lost_links g c sheet found p =
    let a = g.A.Axis.along in
    let e = c.args.edit.now.kind in
    ap (λ o. get (edited_kept (book_route a e c.args.sheet_id c.args.workbook.now) o).links p) found
    ∙ lost_entries a e c.args.sheet_id c.args.workbook.now sheet sheet.links found p

pub returns-clause-lost_lines : goal.returns-clause-lost_lines
returns-clause-lost_lines g c sheet found n =
    let a = g.A.Axis.along in
    let e = c.args.edit.now.kind in
    ap (λ o. get (edited_kept (book_route a e c.args.sheet_id c.args.workbook.now) o).lines n) found
    ∙ get-lost_map int_cmp int_cmp_total exact_signed (edit_moves a.last e).to (lines_of a sheet) n

pub returns-clause-merges : goal.returns-clause-merges
returns-clause-merges g c sheet found =
    ap (λ o. (edited_kept (book_route g.A.Axis.along c.args.edit.now.kind c.args.sheet_id c.args.workbook.now) o).merges) found

pub returns-clause-formattings : goal.returns-clause-formattings
returns-clause-formattings g c sheet found =
    ap (λ o. (edited_kept (book_route g.A.Axis.along c.args.edit.now.kind c.args.sheet_id c.args.workbook.now) o).formattings) found

pub returns-clause-kept_rules : goal.returns-clause-kept_rules
returns-clause-kept_rules g c sheet found index rule =
    let w = route_of_edit g.A.Axis.along c.args.edit.now.kind c.args.sheet_id c.args.workbook.now sheet in
    subst (λ kept. KeepsRule w sheet.formattings kept index rule) (sym (returns-clause-formattings g c sheet found))
    (rules_are_kept w sheet.formattings index rule)

pub returns-clause-trees : goal.returns-clause-trees
returns-clause-trees g c id p =
    let book = c.args.workbook.now in
    formulas_at (book_route g.A.Axis.along c.args.edit.now.kind c.args.sheet_id book) book c.requires.distinct id p
