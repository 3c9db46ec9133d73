pub mod Passes
pub mod Asked
pub mod Text
pub mod Numbers
pub mod Refusals
