-- What a replay knows of a journal, with an entry more.
pub mod Places
pub mod Entering
pub mod SomeViews
pub mod NodeRests
