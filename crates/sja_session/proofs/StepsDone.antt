-- A step, or several of an access, and what they leave.
pub mod Stepped
pub mod StepAnswered
pub mod Accessing
pub mod ReadValue
pub mod LastAnswer
