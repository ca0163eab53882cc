-- How many bytes of an input are read.
pub mod FewBytes
pub mod MostRead
