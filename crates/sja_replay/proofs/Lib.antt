pub mod Once
pub mod Knowledge
pub mod BitTaken
pub mod Listed
