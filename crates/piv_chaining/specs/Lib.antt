pub mod Chains
pub mod Waiting
pub mod Fed
pub mod Filling
pub mod Cuttings
pub mod Lending
pub mod FillerLending
