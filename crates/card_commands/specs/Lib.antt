pub mod Connections
pub mod Asking
pub mod Words
pub mod Carried
pub mod Tells
pub mod Executes
pub mod LossLaws
pub mod TableWords
