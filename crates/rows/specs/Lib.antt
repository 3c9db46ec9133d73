pub mod Memory
pub mod Sheets
pub mod Notes
pub mod Appended
pub mod Paired
pub mod Asked
