pub mod BankFacts
pub mod FirstBytes
pub mod ImmBytes
pub mod ImmSlots
pub mod Made
pub mod ModRms
pub mod Owners
pub mod Soundness
