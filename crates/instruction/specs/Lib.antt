pub mod Fields
pub mod Getters
pub mod Making
