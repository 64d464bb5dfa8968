pub mod Turns
pub mod Cells
pub mod Raised
pub mod Lowered
