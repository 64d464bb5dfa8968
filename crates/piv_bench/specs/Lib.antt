pub mod Benched
pub mod Played
pub mod Laws
