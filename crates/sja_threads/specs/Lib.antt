pub mod Working
-- ---- how the code keeps a run: definitions of the private contracts alone
pub mod Inside
