pub mod CellBases
pub mod Playing
pub mod Leaving
