-- The lines of what a driver did.
pub mod StepOrders
