pub mod KeptReplies
pub mod ReplyLemmas
pub mod ReplyRows
