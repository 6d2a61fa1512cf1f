pub mod Bytes
pub mod Lowest
pub mod Meanings
pub mod Scales
pub mod OneBit
pub mod Shifts
