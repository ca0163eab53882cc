-- a frame for its transmitter
pub mod TransmitterBits
