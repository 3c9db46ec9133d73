pub mod Nothing
mod Wanting
mod Expanding
mod Lines
mod Flattened
