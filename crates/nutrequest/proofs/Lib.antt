pub mod Cutting
pub mod Reading
pub mod Replies
pub mod Joining
pub mod PublicLaws
mod Sending
