pub mod Id
pub mod Tracking
pub mod Sound
pub mod Acts
pub mod Laws
