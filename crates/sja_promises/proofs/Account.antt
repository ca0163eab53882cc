-- What was put, got, released and is left, by journal and acts.
pub mod Accounts
pub mod OffLinks
pub mod Items
pub mod Looks
pub mod SawPut
pub mod Seeing
