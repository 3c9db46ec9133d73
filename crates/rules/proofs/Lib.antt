pub mod Folds
pub mod Settings
