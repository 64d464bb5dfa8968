pub mod NumberLemmas
pub mod Steps
pub mod DigitLaws
