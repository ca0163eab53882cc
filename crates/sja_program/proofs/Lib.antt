pub mod Requested
pub mod PlanAnswers
pub mod BytesRead
pub mod Denied
