pub mod Lines
-- ---- definitions of private contracts alone
pub mod Inside
