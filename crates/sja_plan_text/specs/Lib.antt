pub mod Names
pub mod Texts
pub mod HasTexts
pub mod Document
pub mod Written
pub mod Inside
