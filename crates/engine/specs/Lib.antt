pub mod Stages
pub mod Given
pub mod Done
pub mod Weighed
pub mod Tallied
