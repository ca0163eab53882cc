pub mod Lanes
pub mod Sheets
