pub mod Encode
pub mod Fields
pub mod Heads
pub mod Laws
pub mod Lines
pub mod Targets
