-- The machine: what its functions promise of one another, and where the session of a talk stands.
pub mod Standing
pub mod Reading
pub mod LiveProgress
