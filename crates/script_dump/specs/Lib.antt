pub mod English
pub mod Dump
pub mod Text
