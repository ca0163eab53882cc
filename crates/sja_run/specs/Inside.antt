-- What private contracts speak of: the files of a call, read and answered by turns; a plan that was read, and then run;
-- what is answered to one request, and why nothing is.
pub mod FileReads
pub mod FileTexts
