pub mod Classes
pub mod Facts
pub mod Flags
pub mod Immediates
pub mod Making
pub mod Rules
