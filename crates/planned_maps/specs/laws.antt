pub mod PlanWalks
pub mod PlannedLaws
pub mod WalkLaws
