pub mod References
pub mod Changes
pub mod Told
pub mod Kept
pub mod Laws
