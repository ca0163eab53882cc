-- ---- the places of a frame, and which frame is meant
pub mod FramePlaces
pub mod Aims
-- ---- which plan comes of it
pub mod Counting
pub mod Resolving
pub mod PlanRead
-- ---- definitions of private contracts alone
pub mod Inside
