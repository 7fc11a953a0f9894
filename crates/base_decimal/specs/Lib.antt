pub mod Arithmetic
pub mod Digits
pub mod Canonical
pub mod Numeral
pub mod Printed
pub mod Seen
pub mod Value
pub mod laws
