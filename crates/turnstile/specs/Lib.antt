pub mod Records
pub mod Known
pub mod Turns
pub mod Rule
pub mod Steps
pub mod Inside
