pub mod Standing
pub mod Ending
