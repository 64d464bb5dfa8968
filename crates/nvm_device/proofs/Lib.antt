pub mod Row
pub mod FilledUp
pub mod Tearing
pub mod Losing
pub mod Written
pub mod OwnLosses
