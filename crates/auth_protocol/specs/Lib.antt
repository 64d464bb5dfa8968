pub mod Keys
pub mod Meant
pub mod Answered
pub mod Sizes
