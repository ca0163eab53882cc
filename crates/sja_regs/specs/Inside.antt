-- How the code of a bus turn is cut. Private contracts alone speak of these definitions.
pub mod TurnParts
