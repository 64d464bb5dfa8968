pub mod Mapped
pub mod Dealt
pub mod Played
pub mod Owning
pub mod Taking
