pub mod Live
pub mod Names
pub mod Files
pub mod Difference
pub mod Expected
pub mod Asked
-- ---- definitions of private contracts alone
pub mod Inside
