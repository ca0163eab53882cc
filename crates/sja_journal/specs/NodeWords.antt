-- The words of can_node that this crate speaks of: a bit, the record of a node, and what its cuts find (this project's
-- own rule).
pub use Rattle.can_node_rules.specs.Bits.{Bit as NodeBit}
pub use Rattle.can_node_rules.specs.Record.{RecordEntry as NodeEntry}
pub use Rattle.can_node_rules.specs.Record.RecordEntry.{Start as NodeStarted, Stop as NodeStopped, OneBit as NodeTook}
pub use Rattle.can_node_rules.specs.Record.RecordEntry.{Send as NodeAsked, Abort as NodeAborted, BusOff as NodeWentOff}
pub use Rattle.can_node_rules.specs.Cut.{FinishedPiece, ReceivedFrame, received, IsCut, Count, none_yet, counted}
