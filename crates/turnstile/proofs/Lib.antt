pub mod Owned
pub mod Counting
pub mod Merging
pub mod Opening
pub mod Taking
pub mod GivingBack
pub mod Joining
pub mod Closing
