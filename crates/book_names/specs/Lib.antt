pub mod Renaming
pub mod RenameDiffs
pub mod laws
