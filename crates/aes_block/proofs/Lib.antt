pub mod Columns
pub mod Entries
pub mod Inverse
pub mod Matrix
pub mod RoundSteps
pub mod WordLemmas
pub mod WordsOfKeys
