pub mod Gathered
pub mod Batches
