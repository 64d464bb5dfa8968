pub mod RunTexts
pub mod Summaries
