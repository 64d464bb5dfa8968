pub mod Tags
pub mod Lengths
pub mod Parts
pub mod Laws
pub mod Places
