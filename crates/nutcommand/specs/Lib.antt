pub mod ErrWord
pub mod Command
pub mod Promises
