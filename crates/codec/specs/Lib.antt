pub mod Bytes
pub mod Input
pub mod Reads
pub mod Output
