pub mod Elements
pub mod Reading
pub mod Faults
pub mod Cursors
pub mod Gives
pub mod Laws
