mod DiffLemmas
mod Following
mod KeptAttributes
pub mod Placed
mod Standing
