pub mod Lexing
pub mod Places
pub mod Tokens
pub mod Reading
pub mod Spelled
