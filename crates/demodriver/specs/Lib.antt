pub mod Ups
pub mod Status
pub mod Orders
