pub mod AnswerWords
pub mod SpendLaws
pub mod LastingLaws
pub mod UseLaws
