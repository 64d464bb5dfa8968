pub mod Owned
pub mod OwnedLaws
pub mod Cells
