pub mod Lasts
pub mod AskLaws
pub mod LoginLaws
pub mod TriesLaws
pub mod ApplicationLaws
pub mod GlobalLaws
