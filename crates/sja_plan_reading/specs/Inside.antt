-- What the crate's private types stand for.
pub mod Views
pub mod Items
pub mod Judging
pub mod Reading
pub mod Names
pub mod Definitions
pub mod Rooms
pub mod Strange
pub mod Values
