-- ---- what a drawing shows of a bit
pub mod Kinds
-- ---- places, elements and lanes
pub mod Places
pub mod Elements
pub mod Lanes
-- ---- the text
pub mod Sheets
pub mod DrawingText
-- ---- how a drawing is made bit by bit: definitions of private contracts alone
pub mod Inside
