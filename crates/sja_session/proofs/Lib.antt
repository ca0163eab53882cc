pub mod WrittenPlan
pub mod StepsDone
pub mod BitsDone
pub mod WatchedBits
pub mod InterruptLines
pub mod StruckOnce
pub mod Lifetime
