-- ---- one port
pub mod Ordering
-- ---- one driver
pub mod Asking
pub mod Setting
pub mod Counting
pub mod Accessing
-- ---- a whole run
pub mod Gathering
pub mod Needed
pub mod Stopping
pub mod Linked
pub mod Threads
