pub mod Underway
pub mod Printing
pub mod Done
pub mod Ordering
mod Meanings
mod Warned
