pub mod Limits
pub mod Lasting
pub mod Uses
pub mod WordLaws
pub mod ListedWords
pub mod NoData
