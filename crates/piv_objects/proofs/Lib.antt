pub mod Begins
pub mod Fields
pub mod Found
pub mod Onward
pub mod Template
pub mod Pins
pub mod Chain
pub mod Names
