pub mod Bounds
pub mod Mapped
pub mod Others
pub mod Rounded
