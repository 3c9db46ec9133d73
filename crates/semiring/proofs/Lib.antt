pub mod Marking
pub mod Valuing
pub mod NodeValues
pub mod Evaluating
pub mod Picking
pub mod Worths
pub mod Meant
