-- A session that begins, and one that ends.
pub mod Versions
pub mod Blank
pub mod GoingBy
pub mod Finished
