pub mod Lines
pub mod LineReading
pub mod Playable
pub mod Scripts
