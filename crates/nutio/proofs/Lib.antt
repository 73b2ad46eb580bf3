pub mod PublicLaws
pub mod Known
