pub mod Journal
pub mod ItemsTaken
pub mod Links
pub mod AtPorts
pub mod AllNodes
pub mod Resting
pub mod OneReader
pub mod WholeBus
