use Rattle.std.proofs.Common.{Err, sym, subst}
use Rattle.base_values.specs.Answers.{Edits}
use Rattle.sheet_history.specs.Diffs.{follow}
use Rattle.open_book.specs.Document.{Document, document_received}
use Rattle.open_book.specs.Opened.{document_in}
use Rattle.open_book.proofs.Recording.{receive_refused, receive_done}
use Rattle.open_book.proofs.open_book.OpenBook.receive.Goals as goal

pub returns-in-Err-clause-document : goal.returns-in-Err-clause-document
returns-in-Err-clause-document g c =
    let done = c.in-Err.ensures.installed.refused in
    let doc = document_in c.args.self.now in
    let entry = c.args.entry.now in
    let left : Document = record doc { book = c.install_viewed.new.workbook; view = c.install_viewed.new.view } in
    subst (λ e. Edits (Err e) doc left (document_received c.args.at entry doc)) (sym c.of_entry.ensures)
    (receive_refused doc left c.args.at entry c.in-Err.error (follow entry.kind doc.book entry.list) (λ i. record doc { book = done.0 i; view = c.in-Err.ensures.same i }) done.1)

pub returns-clause-document : goal.returns-clause-document
returns-clause-document g c =
    let doc = document_in c.args.self.now in
    let entry = c.args.entry.now in
    record {
      done = receive_done doc c.args.at entry c.install_viewed.new.workbook c.install_viewed.new.view _ _ (follow entry.kind doc.book entry.list) (c.in_default.ensures {u = _}).installed.done
          (c.in_default.ensures {u = _}).seen c.undo_len-self.ensures c.redo_len-self.ensures;
      refused = tt;
    }
