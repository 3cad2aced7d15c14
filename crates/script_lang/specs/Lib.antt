pub mod AnswerTexts
pub mod Grammar
