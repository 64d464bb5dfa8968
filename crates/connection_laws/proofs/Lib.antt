pub mod Openings
pub mod Challenges
pub mod Pieces
pub mod Fetching
pub mod Power
