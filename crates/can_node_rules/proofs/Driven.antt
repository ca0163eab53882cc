-- What a node drove in each bit of a record that has a cut.
pub mod Contexts
pub mod Lost
pub mod OwnFrames
pub mod Records
pub mod Roles
pub mod Rows
