pub mod Fault
pub mod Lines
pub mod Inbox
pub mod Request
pub mod Reply
pub mod Orders
pub mod Session
