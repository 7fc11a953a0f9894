pub mod Casts
