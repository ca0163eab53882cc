-- a frame for its receiver
pub mod Acknowledging
pub mod Beginnings
pub mod Breaking
pub mod Completing
pub mod ReceiverBits
pub mod ReceiverFaults
pub mod ReceptionOnce
pub mod Starts
pub mod StuffFaults
pub mod Unfinished
