mod Lines
mod Seconds
pub mod Places
pub mod Calls
pub mod Written
pub mod Runs
pub mod FirstOrders
pub mod Segments
