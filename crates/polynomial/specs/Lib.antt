pub mod Rise
pub mod Ways
pub mod Told
pub mod Fronts
