-- Each bit of a run is told.
pub mod ToldBits
pub mod ItemsFit
pub mod Runs
pub mod AllRuns
pub mod StoredRuns
