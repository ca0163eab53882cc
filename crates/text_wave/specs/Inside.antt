-- How the writer of a wave goes on from bit to bit.
pub mod Cursors
pub mod Meters
pub mod Probes
pub mod WaveRest
pub mod Changes
