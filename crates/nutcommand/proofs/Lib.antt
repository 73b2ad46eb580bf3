mod LawfulWords
mod Commands
pub mod PublicLaws
