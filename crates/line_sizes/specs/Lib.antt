pub mod Heights
pub mod LineChanges
pub mod ShownLines
pub mod laws
