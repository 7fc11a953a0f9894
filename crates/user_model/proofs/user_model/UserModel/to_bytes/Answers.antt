use Rattle.sheet_wire.specs.laws.KnownBooks.{known_book}
use Rattle.open_book.specs.Opened.{document_in}
use Rattle.open_book.proofs.Moving.{reached_rules}
use Rattle.user_model.proofs.user_model.UserModel.to_bytes.Goals as goal

pub encode_workbook-requires : goal.encode_workbook-requires
encode_workbook-requires g c = record { known = known_book (document_in c.self.inside.book).book (reached_rules (document_in c.self.inside.book) c.self.invariant) }
