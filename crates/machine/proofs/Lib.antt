pub mod Banked
pub mod ByteCodes
pub mod Named
pub mod Within
