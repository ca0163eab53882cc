pub mod Answers
pub mod CommandLines
pub mod Outcomes
