-- What private functions alone read off the levels.
-- What the private fields of a reader stand for.
pub mod Gathering
pub mod FrameParts
