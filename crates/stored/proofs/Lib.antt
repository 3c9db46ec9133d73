pub mod Written
pub mod Measured
pub mod Steps
pub mod Backward
pub mod RoundTrip
