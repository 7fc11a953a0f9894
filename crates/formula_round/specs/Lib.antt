pub mod Tokens
pub mod Back
