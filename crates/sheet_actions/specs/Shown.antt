-- What a model shows.
use Rattle.sheet_grid.specs.Book.{Book}
use Rattle.sheet_actions.specs.declared.model.Model.{Model}

-- its workbook
abbrev pub book_of : Model → Book
book_of model = model.workbook
