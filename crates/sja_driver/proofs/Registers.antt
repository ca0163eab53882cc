pub mod TransmitBuffer
pub mod Activation
pub mod TbsAndAbort
