-- ---- a record: what happened to a node
-- ---- the pieces of a record: what each is, where it may stand, what follows it
-- ---- what bits, other entries and the ends of pieces change
-- ---- the cut of a record into pieces
-- ---- what the cut says of the next bit, and what that bit tells
-- ---- a node that stands at a record, and what its calls do
pub mod Stands
pub mod Together
pub mod NextField
pub mod NextPlace
pub mod Stages
pub mod Standing
-- ---- frames that start together
-- ---- a record worked by hand
-- ---- how the code keeps a cut: definitions of the private contracts alone
pub mod Inside

-- ---- the face: the lemmas that proofs of other crates cite
-- face: proofs.Machine.Ats.{at_is}
-- face: proofs.Machine.Following.{reads_only, sent_none}
-- face: proofs.Machine.Quiet.{IsQuiet, quietly}
-- face: proofs.Machine.QuietOutside.{idle_quietly}
-- face: proofs.Machine.Shown.{phase_shown}
