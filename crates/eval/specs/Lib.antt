pub mod Refusals
pub mod Ask
