pub mod Forms
pub mod Templates
pub mod Authenticators
pub mod Connections
