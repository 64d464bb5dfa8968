pub mod Readings
pub mod Values
pub mod Names
pub mod Lent
pub mod Answers
