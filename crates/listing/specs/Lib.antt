pub mod Counts
pub mod Digits
pub mod Drafts
pub mod Making
pub mod Requests
pub mod Tokens
