mod Firsts
mod AheadLemmas
mod Upses
mod Lawful
mod Joined
mod Writing
mod Counting
mod LineFacts
mod Filling
mod Positions
mod Owing
mod Ended
mod AddingUp
mod Counted
mod ReadsBack
pub mod PublicLaws
