pub mod Words
pub mod Refusal
