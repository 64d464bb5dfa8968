pub mod Due
pub mod Told
pub mod Power
pub mod Plans
