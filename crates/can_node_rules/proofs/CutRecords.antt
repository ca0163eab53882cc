-- What the cuts of a record say: of the record without its last entry, of bus-off and of an abort behind it, of a start
pub mod BusOff
pub mod Comings
pub mod Events
pub mod Fronts
pub mod ReceivedBits
pub mod Receptions
