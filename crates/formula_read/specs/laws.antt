pub mod Lex
pub mod Outcome
pub mod Classes
