pub mod Bytes
pub mod Registers
pub mod Prefixes
pub mod Leads
pub mod Codes
pub mod ModRms
pub mod Cuts
