pub mod PlanLoops
mod LineCounts
mod Counting
mod Widened
pub mod ArrayPlans
pub mod Blanks
pub mod MergePlans
pub mod Merges
pub mod Pasting
pub mod Ranges
mod Accepted
