-- A run after a bit, and after several.
pub mod StillBits
pub mod AtOnce
pub mod Unstopped
pub mod SomeBits
pub mod Telling
pub mod ManyBits
pub mod Ending
pub mod Borrowed
pub mod BitRun
