pub mod Holding
pub mod Standing
pub mod Sizes
pub mod Lines
