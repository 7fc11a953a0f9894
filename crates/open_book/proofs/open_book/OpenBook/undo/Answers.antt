use Rattle.std.proofs.Common.{refl, sym, ◌∙◌}
use Rattle.sheet_history.specs.declared.DiffType.TheVariants.{Undo}
use Rattle.open_book.specs.Document.{undone}
use Rattle.open_book.specs.Opened.{document_in}
use Rattle.open_book.proofs.Moving.{reached_rules}
use Rattle.open_book.proofs.Recording.{back_refused, took_back, undo_works, refused_with, sent_back}
use Rattle.open_book.proofs.open_book.OpenBook.undo.Goals as goal

pub install_viewed-requires-clause-rules : goal.install_viewed-requires-clause-rules
install_viewed-requires-clause-rules g c = reached_rules (document_in c.args.self.now) c.requires

pub install_viewed-requires-clause-works : goal.install_viewed-requires-clause-works
install_viewed-requires-clause-works g c = λ kept.
    let newest = c.in-Some.ensures.newest in
    undo_works (document_in c.args.self.now) c.requires c.in-Some.list.now newest.0 (sym (c.in_ok-make_room.ensures {u = _}).undo ∙ newest.1) (sym c.has_undo_step-is_recorded.ensures ∙ kept)

pub returns-in-Err-clause-document : goal.returns-in-Err-clause-document
returns-in-Err-clause-document g c =
    let doc = document_in c.args.self.now in
    let newest = c.in-Some.ensures.newest in
    let top = sym (c.in_ok-make_room.ensures {u = _}).undo ∙ newest.1 in
    let done = c.in-Err.ensures.installed.refused in
    let room = c.in_ok-make_room.ensures {u = _} in
    back_refused doc c.in-Some.list.now newest.0 c.args.self.now.history _ c.in-Err.error (undone c.in-Some.list.now newest.0 doc) top
    (refused_with doc _ c.in-Err.error _ (undone c.in-Some.list.now newest.0 doc) done.0 room.undo room.redo
    (sent_back Undo c.in-Some.list.now c.args.self.now.queue c.enqueue.new.queue c.truncate.new.self c.len-length.result (c.in_ok-enqueue.ensures {u = _}).sent c.len-length.ensures c.truncate.ensures)
    refl refl refl c.in-Err.ensures.same done.1)

pub returns-clause-document : goal.returns-clause-document
returns-clause-document g c =
    let doc = document_in c.args.self.now in
    let newest = c.in-Some.ensures.newest in
    let room = c.in_ok-make_room.ensures {u = _} in
    let counted = c.undo_counted-counts.ensures in
    record {
      done = took_back doc c.in-Some.list.now newest.0 c.make_room.new.history _ _ _ _ _ c.undo_counted-counts.new.history _ room.undo room.redo (sym room.undo ∙ newest.1) (c.in_default-install_viewed.ensures {u = _}).installed.done
          (c.in_default-install_viewed.ensures {u = _}).seen (c.in_ok-enqueue.ensures {u = _}).sent c.has_undo_step-is_recorded.ensures counted.undo counted.redo counted.stale_undo counted.stale_redo;
      refused = tt;
    }
