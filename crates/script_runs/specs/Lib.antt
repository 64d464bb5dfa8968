pub mod Runs
pub mod Turns
pub mod Progress
pub mod Shares
pub mod Laws
pub mod Alone
