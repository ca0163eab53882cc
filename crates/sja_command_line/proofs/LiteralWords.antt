-- What words ask for that are written out, by computing the answer of the parser.
pub mod OnWords
pub mod NoFlag
pub mod PlainWords
pub mod PlainFiles
pub mod PlainPictures
pub mod PlainSweeps
