pub mod Ends
pub mod Joining
pub mod Writing
