pub mod Objects
pub mod Losses
pub mod Cards
pub mod CardLimits
pub mod CardValues
pub mod Views
