pub mod answers
pub mod followers
pub mod replies
pub mod steps
