pub mod Drawing
pub mod DrawingProgress
