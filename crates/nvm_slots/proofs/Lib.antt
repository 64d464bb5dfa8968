pub mod Rows
pub mod KeptLaws
pub mod Calls
pub mod Replacing
pub mod LayingLaws
