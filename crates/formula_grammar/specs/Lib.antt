pub mod Words
pub mod Operators
pub mod Grammar
pub mod Numbers
pub mod Normal
pub mod laws
