-- ---- the input, and a plan that it is
pub mod Input
pub mod RunText
pub mod Run
-- ---- what is asked of it
pub mod Check
pub mod Sweep
pub mod Registers
pub mod PlanDocument
-- ---- all requests
pub mod Answer
-- ---- the parts of a request
pub mod PlanTexts
pub mod PlanRefusals
pub mod RunRefusals
pub mod Denials
pub mod Replies
