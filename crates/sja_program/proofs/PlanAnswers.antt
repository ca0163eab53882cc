-- What becomes of a plan.
pub mod Places
pub mod PlanRefusals
pub mod PlanRuns
