pub mod Readying
pub mod Regions
pub mod Answering
