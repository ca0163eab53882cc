pub mod NodeTallies
pub mod WrittenLines
