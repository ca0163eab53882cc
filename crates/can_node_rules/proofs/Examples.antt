-- records worked by hand, with their cuts
pub mod LoneSender
pub mod ReceivedFrame
