pub mod Addresses
pub mod Operands
pub mod Readings
pub mod Fields
