-- The bytes that are free, and the messages that are shown.
pub mod FewVerdicts
pub mod Freeing
pub mod Judging
pub mod Small
pub mod StoredMessages
