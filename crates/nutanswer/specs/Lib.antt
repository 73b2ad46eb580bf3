pub mod View
pub mod Orders
pub mod Checks
pub mod Answer
pub mod Rows
pub mod Laws
pub mod Promises
