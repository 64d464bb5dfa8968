pub mod Together
pub mod Played
