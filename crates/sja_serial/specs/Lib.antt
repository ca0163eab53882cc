-- ---- what bits do
pub mod Bits
pub mod UntilTold
-- ---- the whole run
pub mod Serial
pub mod Stepping
pub mod Striking
pub mod SerialPlaces
pub mod Accounts
-- ---- its end
pub mod Ending
pub mod LoggedRuns
pub mod Registers
-- ---- definitions of private contracts alone
pub mod Inside

-- ---- the face: the lemmas that proofs of other crates cite
-- face: proofs.AllNodes.Several.{at_own, by_own, first_driver, from_own, many_steps, setup_is, some_links}
-- face: proofs.TypedActs.Parts.{all_at}
-- face: proofs.WholeRun.GoingOn.{bits_run, run_acts_of}
