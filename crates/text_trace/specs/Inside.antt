-- How the writer of a trace goes from event to event, from step to step and from bit to bit.
pub mod Saying
pub mod StepOrder
pub mod Reading
-- How a node trace finishes: of the invariant of that loop.
pub mod Finishing
