use Rattle.std.proofs.Common.{subst, w32, SFits}
use Rattle.std.proofs.lemmas.Int.{to_z-of_z}
use Rattle.std.specs.Prelude.{OnOk}
use Rattle.edit_plans.specs.Edits.{Edit, is_silent}
use Rattle.edit_plans.specs.Edits.Edit.{MoveLines}
use Rattle.open_book.specs.Machine.{State, edit_of}
use Rattle.open_book.specs.Opened.{document_in, session_of}
use Rattle.open_book.specs.Stands.{StandsFor, Moves}
use Rattle.open_book.specs.Values.{Session, Makes}
use Rattle.open_book.proofs.Moving.{changes_same, edit_moves, reached_by, reached_rules, same_session}
use Rattle.user_model.proofs.user_model.UserModel.move_lines.Goals as goal

pub move_lines-requires-clause-rules : goal.move_lines-requires-clause-rules
move_lines-requires-clause-rules g c = reached_rules (document_in c.self.inside.book) c.self.invariant

pub returns-clause-next : goal.returns-clause-next
returns-clause-next g c =
    let first_fits : SFits w32 c.args.first = c.ranges.first in
    let count_fits : SFits w32 c.args.count = c.ranges.count in
    let delta_fits : SFits w32 c.args.delta = c.ranges.delta in
    let edit : Edit = MoveLines c.args.sheet c.args.axis c.args.first c.args.count c.args.delta in
    subst (λ (seen : Session). (s : State) → StandsFor seen.document s → Moves c.move_lines.result (document_in c.move_lines.new.self) (edit_of edit s)) c.self.view_is
    (edit_moves edit (document_in c.self.inside.book) _ c.move_lines.result (simp to_z-of_z at c.move_lines.ensures.document) (simp to_z-of_z at c.move_lines.ensures.sound))

pub returns-clause-output : goal.returns-clause-output
returns-clause-output g c =
    let first_fits : SFits w32 c.args.first = c.ranges.first in
    let count_fits : SFits w32 c.args.count = c.ranges.count in
    let delta_fits : SFits w32 c.args.delta = c.ranges.delta in
    subst (λ (seen : Session). OnOk c.move_lines.result (Makes (is_silent (MoveLines c.args.sheet c.args.axis c.args.first c.args.count c.args.delta) seen.document.book) g.R.Recalc.Fits seen
    (session_of c.move_lines.new.self c.move_lines.new.results))) c.self.view_is (simp to_z-of_z at c.move_lines.ensures.output)

pub returns-clause-err : goal.returns-clause-err
returns-clause-err g c =
    let first_fits : SFits w32 c.args.first = c.ranges.first in
    let count_fits : SFits w32 c.args.count = c.ranges.count in
    let delta_fits : SFits w32 c.args.delta = c.ranges.delta in
    same_session c.move_lines.result c.self.inside.book c.move_lines.new.self c.self.inside.results c.move_lines.new.results _ c.self.view_is (changes_same c.move_lines.result _ _ _ (simp to_z-of_z at c.move_lines.ensures.document)) c.move_lines.ensures.err

pub invariant_of-self : goal.invariant_of-self
invariant_of-self g c =
    let first_fits : SFits w32 c.args.first = c.ranges.first in
    let count_fits : SFits w32 c.args.count = c.ranges.count in
    let delta_fits : SFits w32 c.args.delta = c.ranges.delta in
    let edit : Edit = MoveLines c.args.sheet c.args.axis c.args.first c.args.count c.args.delta in
    reached_by c.move_lines.result (document_in c.self.inside.book) _ (edit_of edit) (changes_same c.move_lines.result _ _ _ (simp to_z-of_z at c.move_lines.ensures.document))
    (edit_moves edit (document_in c.self.inside.book) _ c.move_lines.result (simp to_z-of_z at c.move_lines.ensures.document) (simp to_z-of_z at c.move_lines.ensures.sound)) c.self.invariant
