pub mod Exact
pub mod LowestIs
