pub mod Leaves
pub mod Still
pub mod laws
