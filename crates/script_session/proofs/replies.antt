-- Replies to followers: asked for, kept and given.
pub mod GivenReplies
pub mod KeptReplyLemmas
pub mod ReplyLines
