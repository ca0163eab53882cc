-- a frame for its transmitter
pub mod AfterLoss
pub mod BadBits
pub mod Losing
pub mod OwnBits
pub mod PieceEnds
pub mod SentBits
pub mod SentLines
pub mod TransmissionOnce
pub mod TransmitterFronts
pub mod WellNext
pub mod WrongBits
