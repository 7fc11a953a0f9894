pub mod Characters
pub mod Lexicon
pub mod Formula
pub mod laws
