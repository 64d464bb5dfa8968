pub mod Outcomes
pub mod EntryReading
pub mod HistoryReading
