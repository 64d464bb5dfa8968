pub mod Objects
pub mod Spelling
pub mod Laid
