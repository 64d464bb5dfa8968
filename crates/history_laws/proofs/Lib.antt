pub mod Recovery
pub mod Planned
pub mod Soundness
pub mod Data
