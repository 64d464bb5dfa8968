pub mod Steps
pub mod Memories
pub mod Legality
pub mod StepLaws
pub mod CounterLaws
pub mod TableLaws
