-- The rows of nodes.
pub mod Runs
pub mod Hands
pub mod Drawing
pub mod Copies
pub mod Resting
pub mod Beside
pub mod Stories
pub mod RestTold
pub mod Fresh
