-- How a run goes on from turn to turn, and a step on its way: definitions of private contracts and of proofs alone.
pub mod SerialProgress
pub mod Rounds
pub mod Turning
pub mod Accessing
pub mod Registering
