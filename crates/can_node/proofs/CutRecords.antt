-- What the cuts of a record say: of the record without its last entry, of bus-off and of an abort behind it, of a start
-- and a request, of what a bit tells, of the bit with which a frame is received, of how many bits such a frame has, and
-- of the segment of the next bit.
pub mod NextSegments
