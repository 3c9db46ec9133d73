pub mod Algebra
pub mod Needed
pub mod Refusals
pub mod Readings
pub mod Parts
pub mod Meanings
