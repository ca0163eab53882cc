pub mod Requested
pub mod FilesDone
pub mod LinesCompared
pub mod ShownNames
