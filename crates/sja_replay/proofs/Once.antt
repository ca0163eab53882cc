pub mod Views
pub mod Bits
pub mod Lists
