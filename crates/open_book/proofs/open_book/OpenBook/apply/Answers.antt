use Rattle.std.proofs.Common.{refl}
use Rattle.sheet_history.specs.declared.DiffType.TheVariants.{Redo}
use Rattle.open_book.specs.Document.{recorded}
use Rattle.open_book.specs.Opened.{document_in}
use Rattle.open_book.proofs.Recording.{sent_back, refused_with}
use Rattle.open_book.proofs.open_book.OpenBook.apply.Goals as goal

pub returns-in-Err-clause-document : goal.returns-in-Err-clause-document
returns-in-Err-clause-document g c =
    let done = c.in-Err.ensures.installed.refused in
    let sent = c.in_ok-send.ensures {u = _} in
    let doc = document_in c.args.self.now in
    refused_with doc _ c.in-Err.error _ (recorded c.args.list c.args.selected c.args.seen doc) done.0 sent.undo sent.redo
    (sent_back Redo c.args.list c.args.self.now.queue c.send.new.queue c.truncate.new.self c.len-length.result sent.sent c.len-length.ensures c.truncate.ensures)
    refl refl refl refl done.1
