pub mod Parts
pub mod CuttingLaws
pub mod Rooms
