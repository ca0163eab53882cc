-- What the values of the parser stand for, and the table of commands: definitions of private contracts alone.
pub mod Parser
pub mod Table
