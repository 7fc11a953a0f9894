pub mod Along
pub mod Rectangles
pub mod laws
