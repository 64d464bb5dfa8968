pub mod EachAfter
mod DocumentLaws
pub mod NameLaws
