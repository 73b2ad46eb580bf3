pub mod Script
pub mod Transcript
pub mod OneRun
pub mod Written
pub mod Recorded
