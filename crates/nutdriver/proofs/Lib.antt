pub mod FlagLemmas
pub mod TreeLemmas
pub mod LawfulLines
pub mod SoundTrees
pub mod LineLemmas
pub mod ReportedNumbers
mod Histories
mod LastLine
mod AddingOrder
pub mod PublicLaws
