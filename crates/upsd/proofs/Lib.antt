mod Commands
mod Replayed
pub mod Addresses
