pub mod ChangedLines
pub mod ChangeEquals
pub mod NextShown
