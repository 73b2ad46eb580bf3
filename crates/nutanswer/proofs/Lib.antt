mod Rows
mod CheckLemmas
mod TableRows
mod Fresh
mod Named
mod Commands
mod ErrorLemmas
mod Plain
mod Shapes
mod RightLemmas
mod OrderFits
pub mod PublicLaws
mod Carried
mod Ids
