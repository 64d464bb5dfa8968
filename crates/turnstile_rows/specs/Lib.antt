pub mod Rows
pub mod Gathered
