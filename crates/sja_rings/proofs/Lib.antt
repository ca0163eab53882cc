pub mod OnePair
pub mod RingsOfNode
pub mod Seen
