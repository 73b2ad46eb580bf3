mod Taking
mod Doing
mod OneRun
pub mod ReadBack
mod Recording
mod Replayed
pub mod PublicLaws
