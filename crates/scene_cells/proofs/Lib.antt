pub mod Places
pub mod Lowering
pub mod CellLaws
pub mod Placing
pub mod TurnSums
