pub mod Workers
pub mod Shared
pub mod AtOnce
