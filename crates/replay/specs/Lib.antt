pub mod Answers
pub mod Cuts
