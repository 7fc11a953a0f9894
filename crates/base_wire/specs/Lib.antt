pub mod MapBytes
pub mod Reads
pub mod Encoding
pub mod Parts
pub mod Forms
pub mod laws
