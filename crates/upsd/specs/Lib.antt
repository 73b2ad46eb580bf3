pub mod Refused
pub mod Ending
pub mod Reading
pub mod Configuration
pub mod Replaying
pub mod Task
pub mod Words
