pub mod Rewritten
pub mod Written
pub mod Outcome
