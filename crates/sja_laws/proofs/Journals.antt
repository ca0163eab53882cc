pub mod LastBits
pub mod Partners
pub mod VerdictBits
