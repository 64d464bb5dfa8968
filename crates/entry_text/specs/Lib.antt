pub mod EntryTexts
pub mod AnswerTexts
pub mod LineParts
