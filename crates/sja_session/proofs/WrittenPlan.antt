-- The plan that a session wrote: its steps and turns, and where they led.
pub mod Noting
pub mod OneMore
pub mod Turned
pub mod Taken
pub mod Within
