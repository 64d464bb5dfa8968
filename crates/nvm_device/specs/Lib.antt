pub mod Bytes
pub mod Device
pub mod Losses
pub mod UnderPlan
pub mod Laws
pub mod Fused
