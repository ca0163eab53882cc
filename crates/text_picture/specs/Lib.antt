-- ---- the letter of a bit of a node
pub mod EqualLevels
pub mod Letters
-- ---- the text
pub mod Rows
pub mod PictureText
pub mod Drawing
pub mod Knowing
pub mod Pages
-- ---- how a picture is drawn bit by bit: definitions of private contracts alone
pub mod Inside

-- ---- the face: the lemmas that proofs of other crates cite
-- face: proofs.NodeRows.Beside.{Beside}
