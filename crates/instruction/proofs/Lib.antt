pub mod Back
pub mod Leaves
pub mod Ranges
pub mod There
