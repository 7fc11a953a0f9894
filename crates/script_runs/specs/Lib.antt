pub mod Run
pub mod Script
pub mod Tallies
pub mod Session
