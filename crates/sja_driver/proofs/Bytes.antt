-- reads and writes of a driver that knows addresses and bytes alone
pub mod CommandBytes
pub mod OtherWrites
pub mod ReadBack
pub mod FewSteps
pub mod Writing
