-- ---- a session, of any version
pub mod Beginning
pub mod Ending
-- ---- lines and answers
pub mod Lines
pub mod Commands
pub mod Mistakes
pub mod Opening
pub mod PlaceTexts
pub mod AnswerTexts
pub mod Answering
-- ---- the whole
pub mod Talking
-- ---- the machine
pub mod Inside
