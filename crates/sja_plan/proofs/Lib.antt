pub mod PlanLimits
