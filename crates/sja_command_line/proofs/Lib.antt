pub mod LiteralWords
pub mod Requests
