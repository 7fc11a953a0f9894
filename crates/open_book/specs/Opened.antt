-- What callers see of a user model.
use Rattle.open_book.specs.declared.open_book.OpenBook.{OpenBook}
use Rattle.open_book.specs.declared.recalc.Results.{Results}
use Rattle.open_book.specs.Document.{Document}
use Rattle.open_book.specs.Values.{Session}

-- the document of an open workbook
abbrev pub document_in : OpenBook → Document
document_in book =
    record {
      book = book.workbook;
      undo = book.history.undo;
      redo = book.history.redo;
      stale_undo = book.stale_undo;
      stale_redo = book.stale_redo;
      queue = book.queue;
      language = book.language;
      view = book.view;
    }

-- with its computed values
abbrev pub session_of : OpenBook → Results → Session
session_of book results = record { document = document_in book; values = results.values; paused = results.paused }
