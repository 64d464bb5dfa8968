pub mod Slots
pub mod Laying
