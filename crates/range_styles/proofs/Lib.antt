pub mod PlanLoops
