-- What may stand between the bits of a node's record (this project's own rule).
use Rattle.can_node_rules.specs.Record.{RecordEntry}
use Rattle.can_node_rules.specs.Record.RecordEntry.{Start, Stop, OneBit, Send, Abort, BusOff}

-- a start, a stop, a request or an abort
abbrev pub IsBetweenBits : RecordEntry → Type 0
IsBetweenBits (Start config) = Unit {0}
IsBetweenBits Stop = Unit {0}
IsBetweenBits (Send request) = Unit {0}
IsBetweenBits Abort = Unit {0}
IsBetweenBits (OneBit b) = ⊥
IsBetweenBits BusOff = ⊥
