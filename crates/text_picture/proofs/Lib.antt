pub mod NodeRows
pub mod WholePage
