-- What becomes of files.
pub mod FileReads
pub mod FileSteps
pub mod FileTexts
pub mod ReportsMet
