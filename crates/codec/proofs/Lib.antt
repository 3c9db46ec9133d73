pub mod Bytes
pub mod Tables
pub mod Queries
pub mod Texts
