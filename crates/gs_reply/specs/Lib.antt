pub mod Notices
pub mod Replies
