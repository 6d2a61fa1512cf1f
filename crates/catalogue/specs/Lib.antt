pub mod Built
pub mod Meaning
