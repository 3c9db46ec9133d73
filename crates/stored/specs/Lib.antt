pub mod Form
pub mod Reads
pub mod RoundTrip
pub mod Rows
