-- Histories, and the images that they lead to.
pub mod HistoryMeetings
