pub mod Header
pub mod Forms
pub mod Images
pub mod Places
pub mod Laws
pub mod Looking
pub mod Laying
pub mod Device
