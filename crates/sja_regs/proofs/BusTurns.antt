-- What a turn of the bus leaves, and what one leaves that says nothing new.
pub mod TurnLemmas
pub mod SaysTheSame
