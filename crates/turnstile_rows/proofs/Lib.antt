pub mod Lists
pub mod Passes
pub mod Leaving
pub mod Ending
pub mod Joining
pub mod Merged
pub mod Rows
